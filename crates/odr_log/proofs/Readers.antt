-- Readers that belong to a spelling: what is taken is spelled so, what is spelled so is taken, and where
-- reading stops some spelling goes on with the bytes before the stop and none with one byte more.
use Rattle.std.proofs.Common.{◌≡◌, ℕ, ◌<◌, List, [], ◌∷◌, ◌++◌, length, get_or, Result, Ok, Err, refl, sym, ap, subst, ◌∙◌, append_assoc}
use Rattle.odr_log.specs.Reading.{◌>>=◌, mapped, pair_at}
use Rattle.odr_log.proofs.Fields.{bind_ok, ok_is}

abbrev pub IsBytes : List ℕ → Type 0
IsBytes bytes = (i : ℕ) → get_or bytes i 0 < 256

-- where reading stops
pub record Stuck {X : Type 0} (Fits : X → Type 0) (text : X → List ℕ) (bytes : List ℕ) (left : ℕ) : Type 0 where
  pub front : List ℕ
  pub rest : List ℕ
  pub parts : bytes ≡ front ++ rest
  pub left_is : length rest ≡ left
  -- some value's text goes on from there
  pub value : X
  pub tail : List ℕ
  pub fits : Fits value
  pub goes_on : text value ≡ front ++ tail
  -- and none's with the next byte, whatever follows
  pub stops : (b : ℕ) (after : List ℕ) → rest ≡ b ∷ after → (x : X) (more others : List ℕ) → Fits x → text x ++ more ≡ front ++ (b ∷ others) → ⊥

pub record IsReader {X : Type 0} (Fits : X → Type 0) (text : X → List ℕ) (read : List ℕ → Result (X × List ℕ) ℕ) : Type 0 where
  pub takes : (bytes : List ℕ) (x : X) (rest : List ℕ) → IsBytes bytes → read bytes ≡ Ok (x, rest) → (bytes ≡ text x ++ rest) × Fits x × IsBytes rest
  pub again : (x : X) (rest : List ℕ) → Fits x → read (text x ++ rest) ≡ Ok (x, rest)
  pub stuck : (bytes : List ℕ) (left : ℕ) → IsBytes bytes → read bytes ≡ Err left → Stuck Fits text bytes left

-- one spelling each: what follows a text is told by the text
pub one_text : {X : Type 0} {Fits : X → Type 0} {text : X → List ℕ} {read : List ℕ → Result (X × List ℕ) ℕ} → IsReader Fits text read
    → (x y : X) (more others : List ℕ) → Fits x → Fits y → text x ++ more ≡ text y ++ others → (x ≡ y) × (more ≡ others)
one_text {X} {Fits} {text} {read} r x y more others fits_x fits_y e =
    let same : (x, more) ≡ (y, others) = ok_is (x, more) (y, others) (sym (r.again x more fits_x) ∙ ap read e ∙ r.again y others fits_y) in
    (ap (λ (p : X × List ℕ). p.0) same, ap (λ (p : X × List ℕ). p.1) same)

-- a part, and then what stands behind it: `first` is the value of the part, `u` spells the rest
abbrev pub then_at : {X Z : Type 0} → (List ℕ → Result (X × List ℕ) ℕ) → (X → List ℕ → Result (Z × List ℕ) ℕ) → List ℕ → Result (Z × List ℕ) ℕ
then_at p q bytes = p bytes >>= λ a. q a.0 a.1

pub record IsSplit {X Z : Type 0} (F : X → Type 0) (t : X → List ℕ) (G : Z → Type 0) (s : Z → List ℕ) (first : Z → X) (u : Z → List ℕ) : Type 0 where
  pub fits : (z : Z) → G z → F (first z)
  pub text : (z : Z) → G z → s z ≡ t (first z) ++ u z
  pub some : (x : X) → F x → (z : Z) × G z × (first z ≡ x)

pub then-stuck : {X Z : Type 0} (F : X → Type 0) (t : X → List ℕ) (p : List ℕ → Result (X × List ℕ) ℕ)
    (G : Z → Type 0) (s : Z → List ℕ) (first : Z → X) (u : Z → List ℕ) (q : X → List ℕ → Result (Z × List ℕ) ℕ)
    → IsReader F t p → ((x : X) → F x → IsReader (λ z. G z × (first z ≡ x)) u (q x)) → IsSplit F t G s first u
    → (bytes : List ℕ) (left : ℕ) → IsBytes bytes → (read : Result (X × List ℕ) ℕ) → p bytes ≡ read → (read >>= λ a. q a.0 a.1) ≡ Err left → Stuck G s bytes left
then-stuck F t p G s first u q one two split bytes left fits (Err k) is e =
    let same : k ≡ left = cc in
    let S = one.stuck bytes k fits is in
    let z = split.some S.value S.fits in
    record {
      front = S.front;
      rest = S.rest;
      parts = S.parts;
      left_is = S.left_is ∙ same;
      value = z.0;
      tail = S.tail ++ u z.0;
      fits = z.1;
      goes_on = split.text z.0 z.1 ∙ ap (λ x. t x ++ u z.0) z.2 ∙ ap (λ text. text ++ u z.0) S.goes_on ∙ append_assoc S.front S.tail (u z.0);
      stops = λ b after rest_is x more others g text_is.
          S.stops b after rest_is (first x) (u x ++ more) others (split.fits x g)
          (sym (append_assoc (t (first x)) (u x) more) ∙ ap (λ text. text ++ more) (sym (split.text x g)) ∙ text_is);
    }
then-stuck F t p G s first u q one two split bytes left fits (Ok a) is e =
    let took = one.takes bytes a.0 a.1 fits is in
    let S = (two a.0 took.1).stuck a.1 left took.2 e in
    record {
      front = t a.0 ++ S.front;
      rest = S.rest;
      parts = took.0 ∙ ap (λ text. t a.0 ++ text) S.parts ∙ sym (append_assoc (t a.0) S.front S.rest);
      left_is = S.left_is;
      value = S.value;
      tail = S.tail;
      fits = S.fits.0;
      goes_on = split.text S.value S.fits.0 ∙ ap (λ x. t x ++ u S.value) S.fits.1 ∙ ap (λ text. t a.0 ++ text) S.goes_on ∙ sym (append_assoc (t a.0) S.front S.tail);
      stops = λ b after rest_is x more others g text_is.
          let same = one_text one (first x) a.0 (u x ++ more) (S.front ++ (b ∷ others)) (split.fits x g) took.1
          (sym (append_assoc (t (first x)) (u x) more) ∙ ap (λ text. text ++ more) (sym (split.text x g)) ∙ text_is ∙ append_assoc (t a.0) S.front (b ∷ others)) in
          S.stops b after rest_is x more others (g, same.0) same.1;
    }

pub then-reader : {X Z : Type 0} (F : X → Type 0) (t : X → List ℕ) (p : List ℕ → Result (X × List ℕ) ℕ)
    (G : Z → Type 0) (s : Z → List ℕ) (first : Z → X) (u : Z → List ℕ) (q : X → List ℕ → Result (Z × List ℕ) ℕ)
    → IsReader F t p → ((x : X) → F x → IsReader (λ z. G z × (first z ≡ x)) u (q x)) → IsSplit F t G s first u
    → IsReader G s (then_at p q)
then-reader {X} {Z} F t p G s first u q one two split = record {
  takes = λ bytes z rest fits e.
      let a = bind_ok (p bytes) (λ a. q a.0 a.1) (z, rest) e in
      let took = one.takes bytes a.0.0 a.0.1 fits a.1 in
      let then' = (two a.0.0 took.1).takes a.0.1 z rest took.2 a.2 in
      let text_is : s z ≡ t a.0.0 ++ u z = split.text z then'.1.0 ∙ ap (λ x. t x ++ u z) then'.1.1 in
      (took.0 ∙ ap (λ text. t a.0.0 ++ text) then'.0 ∙ sym (append_assoc (t a.0.0) (u z) rest) ∙ ap (λ text. text ++ rest) (sym text_is), then'.1.0, then'.2);
  again = λ z rest g.
      let regrouped : s z ++ rest ≡ t (first z) ++ (u z ++ rest) = ap (λ text. text ++ rest) (split.text z g) ∙ append_assoc (t (first z)) (u z) rest in
      ap (then_at p q) regrouped ∙ ap (λ (r : Result (X × List ℕ) ℕ). r >>= λ a. q a.0 a.1) (one.again (first z) (u z ++ rest) (split.fits z g))
      ∙ (two (first z) (split.fits z g)).again z rest (g, refl);
  stuck = λ bytes left fits e. then-stuck F t p G s first u q one two split bytes left fits (p bytes) refl e;
}

err_from_mapped : {X Z : Type 0} (make : X → Z) (read : Result (X × List ℕ) ℕ) (left : ℕ) → mapped make read ≡ Err left → read ≡ Err left
err_from_mapped make (Ok x) left e = absurd cc
err_from_mapped make (Err k) left e = cc

-- one value alone, which needs no byte more
pub done-reader : {Z : Type 0} (G : Z → Type 0) (u : Z → List ℕ) (z : Z) → G z → ((y : Z) → G y → y ≡ z) → u z ≡ [] → IsReader G u (λ bytes. Ok (z, bytes))
done-reader {Z} G u z g only nothing = record {
  takes = λ bytes y rest fits e.
      let same = ok_is (z, bytes) (y, rest) e in
      let value : z ≡ y = ap (λ (p : Z × List ℕ). p.0) same in
      let bytes_are : bytes ≡ rest = ap (λ (p : Z × List ℕ). p.1) same in
      (bytes_are ∙ ap (λ text. text ++ rest) (sym nothing ∙ ap u value), subst G value g, subst IsBytes bytes_are fits);
  again = λ y rest h.
      let same = only y h in
      let empty : u y ++ rest ≡ rest = ap (λ text. text ++ rest) (ap u same ∙ nothing) in
      λ i. Ok (sym same i, empty i);
  stuck = λ bytes left fits e. absurd cc;
}

-- how a value is made of what was read
pub record IsMade {X Z : Type 0} (F : X → Type 0) (t : X → List ℕ) (G : Z → Type 0) (s : Z → List ℕ) (make : X → Z) : Type 0 where
  pub some : (x : X) → F x → G (make x) × (s (make x) ≡ t x)
  pub made : (z : Z) → G z → (x : X) × F x × (z ≡ make x)

pub made-reader : {X Z : Type 0} (F : X → Type 0) (t : X → List ℕ) (p : List ℕ → Result (X × List ℕ) ℕ) (G : Z → Type 0) (s : Z → List ℕ) (make : X → Z)
    → IsReader F t p → IsMade F t G s make → IsReader G s (λ bytes. mapped make (p bytes))
made-reader {X} {Z} F t p G s make one m = record {
  takes = λ bytes z rest fits e.
      let a = bind_ok (p bytes) (λ a. Ok (make a.0, a.1)) (z, rest) e in
      let took = one.takes bytes a.0.0 a.0.1 fits a.1 in
      let some = m.some a.0.0 took.1 in
      let same = ok_is (make a.0.0, a.0.1) (z, rest) a.2 in
      let value : make a.0.0 ≡ z = ap (λ (y : Z × List ℕ). y.0) same in
      let rest_is : a.0.1 ≡ rest = ap (λ (y : Z × List ℕ). y.1) same in
      (took.0 ∙ ap (λ text. text ++ a.0.1) (sym some.1 ∙ ap s value) ∙ ap (λ others. s z ++ others) rest_is, subst G value some.0, subst IsBytes rest_is took.2);
  again = λ z rest g.
      let x = m.made z g in
      let text_is : s z ≡ t x.0 = ap s x.2 ∙ (m.some x.0 x.1).1 in
      ap (λ text. mapped make (p (text ++ rest))) text_is ∙ ap (mapped make) (one.again x.0 rest x.1) ∙ ap (λ y. Ok (y, rest)) (sym x.2);
  stuck = λ bytes left fits e.
      let S = one.stuck bytes left fits (err_from_mapped make (p bytes) left e) in
      let some = m.some S.value S.fits in
      record {
        front = S.front;
        rest = S.rest;
        parts = S.parts;
        left_is = S.left_is;
        value = make S.value;
        tail = S.tail;
        fits = some.0;
        goes_on = some.1 ∙ S.goes_on;
        stops = λ b after rest_is z more others g text_is.
            let x = m.made z g in
            S.stops b after rest_is x.0 more others x.1 (ap (λ text. text ++ more) (sym (ap s x.2 ∙ (m.some x.0 x.1).1)) ∙ text_is);
      };
}

-- the same reader, of values that are told in other words
pub fits-reader : {X : Type 0} (F G : X → Type 0) (t : X → List ℕ) (p : List ℕ → Result (X × List ℕ) ℕ) → IsReader F t p → ((x : X) → F x → G x) → ((x : X) → G x → F x) → IsReader G t p
fits-reader F G t p one to from = record {
  takes = λ bytes x rest fits e. let h = one.takes bytes x rest fits e in (h.0, to x h.1, h.2);
  again = λ x rest g. one.again x rest (from x g);
  stuck = λ bytes left fits e.
      let S = one.stuck bytes left fits e in
      record {
        front = S.front;
        rest = S.rest;
        parts = S.parts;
        left_is = S.left_is;
        value = S.value;
        tail = S.tail;
        fits = to S.value S.fits;
        goes_on = S.goes_on;
        stops = λ b after rest_is x more others g. S.stops b after rest_is x more others (from x g);
      };
}

-- one value and then another
pub pair-reader : {A B : Type 0} (F : A → Type 0) (t : A → List ℕ) (p : List ℕ → Result (A × List ℕ) ℕ) (H : B → Type 0) (u : B → List ℕ) (q : List ℕ → Result (B × List ℕ) ℕ)
    → IsReader F t p → IsReader H u q → (d : B) → H d → IsReader (λ x. F x.0 × H x.1) (λ x. t x.0 ++ u x.1) (pair_at p q)
pair-reader {A} {B} F t p H u q one two d h =
    let second_text : A × B → List ℕ = λ x. u x.1 in
    let both : A × B → Type 0 = λ x. F x.0 × H x.1 in
    then-reader F t p both (λ x. t x.0 ++ u x.1) (λ x. x.0) second_text (λ a bytes. mapped (λ b. (a, b)) (q bytes)) one
    (λ a f. made-reader H u q (λ x. both x × (x.0 ≡ a)) second_text (λ b. (a, b)) two (record {
      some = λ b g. (((f, g), refl), refl);
      made = λ x g. (x.1, g.0.1, λ i. (g.1 i, x.1));
    }))
    (record { fits = λ x g. g.0; text = λ x g. refl; some = λ a f. ((a, d), (f, h), refl) })

-- the same reader, of a spelling that is told in other words
pub text-reader : {X : Type 0} (F : X → Type 0) (t s : X → List ℕ) (p : List ℕ → Result (X × List ℕ) ℕ) → IsReader F t p → ((x : X) → F x → s x ≡ t x) → IsReader F s p
text-reader F t s p one same = record {
  takes = λ bytes x rest fits e. let h = one.takes bytes x rest fits e in (h.0 ∙ ap (λ text. text ++ rest) (sym (same x h.1)), h.1, h.2);
  again = λ x rest f. ap (λ text. p (text ++ rest)) (same x f) ∙ one.again x rest f;
  stuck = λ bytes left fits e.
      let S = one.stuck bytes left fits e in
      record {
        front = S.front;
        rest = S.rest;
        parts = S.parts;
        left_is = S.left_is;
        value = S.value;
        tail = S.tail;
        fits = S.fits;
        goes_on = same S.value S.fits ∙ S.goes_on;
        stops = λ b after rest_is x more others f text_is. S.stops b after rest_is x more others f (ap (λ text. text ++ more) (sym (same x f)) ∙ text_is);
      };
}

-- the same spelling, of a reader that gives the same
pub same-reader : {X : Type 0} (F : X → Type 0) (t : X → List ℕ) (p q : List ℕ → Result (X × List ℕ) ℕ) → IsReader F t p → ((bytes : List ℕ) → q bytes ≡ p bytes) → IsReader F t q
same-reader F t p q one same = record {
  takes = λ bytes x rest fits e. one.takes bytes x rest fits (sym (same bytes) ∙ e);
  again = λ x rest f. same (t x ++ rest) ∙ one.again x rest f;
  stuck = λ bytes left fits e. one.stuck bytes left fits (sym (same bytes) ∙ e);
}

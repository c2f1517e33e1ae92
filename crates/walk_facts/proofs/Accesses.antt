-- The accesses of a walk are the counted steps that are accesses.
use Rattle.std.specs.Prelude.{◌≡◌, ℕ, zero, suc, ◌+◌, ◌<◌, ◌≤◌, ◌⊎◌, Bool, true, false, cond, List, [], ◌∷◌, ◌++◌, length, refl}
use Rattle.std.proofs.Common.{sym, ◌∙◌, ap, subst, arith, inl, inr, get_or}
use Rattle.std.proofs.lemmas.Bool.{false≢true}
use Rattle.elf_image.specs.Layout.{Layout}
use Rattle.odr_log.specs.declared.log.Log.{Log}
use Rattle.odr_log.specs.declared.log.Pos.{Pos}
use Rattle.rv_model.specs.declared.state.Note.{Note}
use Rattle.rv_model.specs.declared.state.Note.TheVariants as note
use Rattle.rv_model.specs.declared.walk.Place.{Place}
use Rattle.rv_model.specs.Accesses.{accesses_by, accesses_from, accesses_of, is_access}
use Rattle.rv_model.specs.RecordedOrder.{Counted}
use Rattle.rv_model.specs.Walk.{IsWalk, ThreadWalk, Walk, notes_of, places_of}
use Rattle.guided_walk.specs.Orders.{Distinct, In, Lists, Stands}
use Rattle.guided_walk.proofs.Facts.{in_log, noted_step}
use Rattle.guided_walk.proofs.NeedsOrder.{counted_place}
use Rattle.guided_walk.proofs.Placing.{in-append, in_left}
use Rattle.guided_walk.proofs.Walks.{leads_length}
use Rattle.walk_facts.specs.Law.{AccessesLaw, IsEarlier}
use Rattle.walk_facts.specs.Steps.{IsAccess, instr_of_step, no_place, step_of}
use Rattle.walk_facts.proofs.Addresses.{noted_within}

-- ---- the accesses of a thread

-- the access at a number of a thread's places
record AccessAt (t s : ℕ) (places : List Place) (notes : List Note) (p : Pos) : Type 0 where
  number : ℕ
  within : number < length notes
  is : step_of t (s + number) ≡ p
  access : is_access (get_or places number no_place).instr (get_or notes number note.Nothing) ≡ true

access_later : (t s : ℕ) (place : Place) (places : List Place) (shown : Note) (notes : List Note) (p : Pos) → AccessAt t (s + 1) places notes p
    → AccessAt t s (place ∷ places) (shown ∷ notes) p
access_later t s place places shown notes p a =
    let e : s + suc a.number ≡ s + 1 + a.number = omega arith in
    record { number = suc a.number; within = omega (arith, a.within); is = ap (step_of t) e ∙ a.is; access = a.access }

access_by : (t s : ℕ) (place : Place) (places : List Place) (shown : Note) (notes : List Note) (p : Pos) (b : Bool) → is_access place.instr shown ≡ b
    → In p (cond b (step_of t s ∷ accesses_from t (s + 1) places notes) (accesses_from t (s + 1) places notes))
    → (In p (accesses_from t (s + 1) places notes) → AccessAt t (s + 1) places notes p) → AccessAt t s (place ∷ places) (shown ∷ notes) p
access_by t s place places shown notes p true e (inl same) rest =
    let z : s + 0 ≡ s = omega arith in
    record { number = 0; within = omega arith; is = ap (step_of t) z ∙ same; access = e }
access_by t s place places shown notes p true e (inr i) rest = access_later t s place places shown notes p (rest i)
access_by t s place places shown notes p false e i rest = access_later t s place places shown notes p (rest i)

access_from : (t s : ℕ) (places : List Place) (notes : List Note) (p : Pos) → In p (accesses_from t s places notes) → AccessAt t s places notes p
access_from t s [] [] p i = absurd i
access_from t s [] (shown ∷ notes) p i = absurd i
access_from t s (place ∷ places) [] p i = absurd i
access_from t s (place ∷ places) (shown ∷ notes) p i = access_by t s place places shown notes p (is_access place.instr shown) refl i (access_from t (s + 1) places notes p)

later_in : (b : Bool) (x p : Pos) (xs : List Pos) → In p xs → In p (cond b (x ∷ xs) xs)
later_in true x p xs i = inr i
later_in false x p xs i = i

first_in : (b : Bool) (x : Pos) (xs : List Pos) → b ≡ true → In x (cond b (x ∷ xs) xs)
first_in true x xs e = inl refl
first_in false x xs e = absurd (false≢true e)

in_from : (t s : ℕ) (places : List Place) (notes : List Note) (k : ℕ) → k < length places → k < length notes
    → is_access (get_or places k no_place).instr (get_or notes k note.Nothing) ≡ true → In (step_of t (s + k)) (accesses_from t s places notes)
in_from t s [] notes k less few e = absurd (omega (arith, less))
in_from t s (place ∷ places) [] k less few e = absurd (omega (arith, few))
in_from t s (place ∷ places) (shown ∷ notes) zero less few e =
    let z : s ≡ s + 0 = omega arith in
    subst (λ (n : ℕ). In (step_of t n) (accesses_from t s (place ∷ places) (shown ∷ notes))) z
    (first_in (is_access place.instr shown) (step_of t s) (accesses_from t (s + 1) places notes) e)
in_from t s (place ∷ places) (shown ∷ notes) (suc k) less few e =
    let z : s + 1 + k ≡ s + suc k = omega arith in
    subst (λ (n : ℕ). In (step_of t n) (accesses_from t s (place ∷ places) (shown ∷ notes))) z
    (later_in (is_access place.instr shown) (step_of t s) (step_of t (s + 1 + k)) (accesses_from t (s + 1) places notes)
    (in_from t (s + 1) places notes k (omega (arith, less)) (omega (arith, few)) e))

-- ---- the accesses of all threads

record AccessIn (t : ℕ) (places : List (List Place)) (notes : List (List Note)) (p : Pos) : Type 0 where
  number : ℕ
  within : number < length notes
  at : AccessAt (t + number) 0 (get_or places number []) (get_or notes number []) p

access_in : (t : ℕ) (places : List (List Place)) (notes : List (List Note)) (p : Pos) → In p (accesses_by t places notes) → AccessIn t places notes p
access_in t [] [] p i = absurd i
access_in t [] (shown ∷ others) p i = absurd i
access_in t (place ∷ more) [] p i = absurd i
access_in t (place ∷ more) (shown ∷ others) p i = elim (in-append p (accesses_from t 0 place shown) (accesses_by (t + 1) more others) i) [
  | inl here ↦ (let z : t ≡ t + 0 = omega arith in
      record { number = 0; within = omega arith; at = subst (λ (u : ℕ). AccessAt u 0 place shown p) z (access_from t 0 place shown p here) })
  | inr later ↦ (let a : AccessIn (t + 1) more others p = access_in (t + 1) more others p later in
      let z : t + 1 + a.number ≡ t + suc a.number = omega arith in
      record {
        number = suc a.number;
        within = omega (arith, a.within);
        at = subst (λ (u : ℕ). AccessAt u 0 (get_or more a.number []) (get_or others a.number []) p) z a.at;
      })
]

in_right : (p : Pos) (xs ys : List Pos) → In p ys → In p (xs ++ ys)
in_right p [] ys i = i
in_right p (x ∷ xs) ys i = inr (in_right p xs ys i)

in_by : (t : ℕ) (places : List (List Place)) (notes : List (List Note)) (p : Pos) (k : ℕ) → k < length places → k < length notes
    → In p (accesses_from (t + k) 0 (get_or places k []) (get_or notes k [])) → In p (accesses_by t places notes)
in_by t [] notes p k less few i = absurd (omega (arith, less))
in_by t (place ∷ more) [] p k less few i = absurd (omega (arith, few))
in_by t (place ∷ more) (shown ∷ others) p zero less few i =
    let z : t + 0 ≡ t = omega arith in
    in_left p (accesses_from t 0 place shown) (accesses_by (t + 1) more others) (subst (λ (u : ℕ). In p (accesses_from u 0 place shown)) z i)
in_by t (place ∷ more) (shown ∷ others) p (suc k) less few i =
    let z : t + suc k ≡ t + 1 + k = omega arith in
    in_right p (accesses_from t 0 place shown) (accesses_by (t + 1) more others)
    (in_by (t + 1) more others p k (omega (arith, less)) (omega (arith, few)) (subst (λ (u : ℕ). In p (accesses_from u 0 (get_or more k []) (get_or others k []))) z i))

-- ---- in order

abbrev Sorted : List Pos → Type 0
Sorted [] = Unit {0}
Sorted (p ∷ later) = ((q : Pos) → In q later → IsEarlier p q) × Sorted later

sorted_cond : (b : Bool) (x : Pos) (xs : List Pos) → ((q : Pos) → In q xs → IsEarlier x q) → Sorted xs → Sorted (cond b (x ∷ xs) xs)
sorted_cond true x xs first rest = (first, rest)
sorted_cond false x xs first rest = rest

sorted_from : (t s : ℕ) (places : List Place) (notes : List Note) → Sorted (accesses_from t s places notes)
sorted_from t s [] [] = tt
sorted_from t s [] (shown ∷ notes) = tt
sorted_from t s (place ∷ places) [] = tt
sorted_from t s (place ∷ places) (shown ∷ notes) =
    sorted_cond (is_access place.instr shown) (step_of t s) (accesses_from t (s + 1) places notes)
    (λ (q : Pos) (i : In q (accesses_from t (s + 1) places notes)).
    let a : AccessAt t (s + 1) places notes q = access_from t (s + 1) places notes q i in
    subst (IsEarlier (step_of t s)) a.is (inr (refl, omega arith)))
    (sorted_from t (s + 1) places notes)

sorted_both : (xs ys : List Pos) → Sorted xs → Sorted ys → ((p q : Pos) → In p xs → In q ys → IsEarlier p q) → Sorted (xs ++ ys)
sorted_both [] ys one other across = other
sorted_both (x ∷ xs) ys one other across = (
  λ (q : Pos) (i : In q (xs ++ ys)). elim (in-append q xs ys i) [ inl j ↦ one.0 q j | inr j ↦ across x q (inl refl) j ],
  sorted_both xs ys one.1 other (λ (p q : Pos) (i : In p xs) (j : In q ys). across p q (inr i) j),
)

sorted_by : (t : ℕ) (places : List (List Place)) (notes : List (List Note)) → Sorted (accesses_by t places notes)
sorted_by t [] [] = tt
sorted_by t [] (shown ∷ others) = tt
sorted_by t (place ∷ more) [] = tt
sorted_by t (place ∷ more) (shown ∷ others) =
    sorted_both (accesses_from t 0 place shown) (accesses_by (t + 1) more others) (sorted_from t 0 place shown) (sorted_by (t + 1) more others)
    (λ (p q : Pos) (i : In p (accesses_from t 0 place shown)) (j : In q (accesses_by (t + 1) more others)).
    let a : AccessAt t 0 place shown p = access_from t 0 place shown p i in
    let b : AccessIn (t + 1) more others q = access_in (t + 1) more others q j in
    inl (omega (arith, ap (λ (x : Pos). x.thread) a.is, ap (λ (x : Pos). x.thread) b.at.is)))

never_itself : (p : Pos) → IsEarlier p p → ⊥
never_itself p (inl less) = absurd (omega (arith, less))
never_itself p (inr both) = absurd (omega (arith, both.1))

sorted_once : (xs : List Pos) → Sorted xs → Distinct xs
sorted_once [] sorted = tt
sorted_once (x ∷ xs) sorted = (λ (i : In x xs). never_itself x (sorted.0 x i), sorted_once xs sorted.1)

sorted_stands : (xs : List Pos) → Sorted xs → (p q : Pos) → Stands xs p q → IsEarlier p q
sorted_stands [] sorted p q s = absurd s
sorted_stands (x ∷ xs) sorted p q (inl s) = subst (λ (y : Pos). IsEarlier y q) s.0 (sorted.0 q s.1)
sorted_stands (x ∷ xs) sorted p q (inr s) = sorted_stands xs sorted.1 p q s

-- ---- lists of the same steps are as long

-- a list without one of its members
record Without (x : Pos) (ys : List Pos) : Type 0 where
  rest : List Pos
  many : length ys ≡ suc (length rest)
  keeps : (p : Pos) → In p ys → (x ≡ p) ⊎ In p rest

without : (x : Pos) (ys : List Pos) → In x ys → Without x ys
without x [] i = absurd i
without x (y ∷ ys) (inl e) = record {
  rest = ys;
  many = refl;
  keeps = λ (p : Pos) (i : In p (y ∷ ys)). elim i [ inl here ↦ inl (sym e ∙ here) | inr later ↦ inr later ];
}
without x (y ∷ ys) (inr i) =
    let w : Without x ys = without x ys i in
    record {
      rest = y ∷ w.rest;
      many = ap suc w.many;
      keeps = λ (p : Pos) (j : In p (y ∷ ys)). elim j [
        | inl here ↦ inr (inl here)
        | inr later ↦ (elim (w.keeps p later) [ inl e ↦ inl e | inr k ↦ inr (inr k) ])
      ];
    }

no_more : (xs ys : List Pos) → Distinct xs → ((p : Pos) → In p xs → In p ys) → length xs ≤ length ys
no_more [] ys once all = omega arith
no_more (x ∷ xs) ys once all =
    let w : Without x ys = without x ys (all x (inl refl)) in
    let rest : length xs ≤ length w.rest =
    no_more xs w.rest once.1 (λ (p : Pos) (i : In p xs). elim (w.keeps p (all p (inr i))) [
      | inl e ↦ absurd (once.0 (subst (λ (y : Pos). In y xs) (sym e) i))
      | inr j ↦ j
    ]) in
    omega (arith, rest, w.many)

-- ---- the law

lists_accesses : (image : Layout) (log : Log) (walk : Walk) → IsWalk image log walk → Lists (IsAccess log walk) (accesses_of walk)
lists_accesses image log walk is = record {
  all = λ (p : Pos) (access : IsAccess log walk p).
      let within : p.step < length (notes_of walk p.thread) = noted_within image log walk is p access.0 in
      let there : p.thread < length log.threads = in_log image log walk is p.thread p.step within in
      let tw : ThreadWalk image log p.thread (places_of walk p.thread) (notes_of walk p.thread) = is.each p.thread there in
      let many : length (places_of walk p.thread) ≡ length (notes_of walk p.thread) = leads_length image tw.start (places_of walk p.thread) (notes_of walk p.thread) tw.after tw.leads in
      let here : is_access (instr_of_step walk p) (get_or (notes_of walk p.thread) p.step note.Nothing) ≡ true =
      ap (is_access (instr_of_step walk p)) (sym (noted_step log walk p within)) ∙ access.1 in
      let from : p.step ≡ 0 + p.step = omega arith in
      let first : p.thread ≡ 0 + p.thread = omega arith in
      in_by 0 walk.places walk.notes p p.thread (omega (arith, there, is.places)) (omega (arith, there, is.notes))
      (subst (λ (t : ℕ). In p (accesses_from t 0 (places_of walk p.thread) (notes_of walk p.thread))) first
      (subst (λ (s : ℕ). In (step_of p.thread s) (accesses_from p.thread 0 (places_of walk p.thread) (notes_of walk p.thread))) (sym from)
      (in_from p.thread 0 (places_of walk p.thread) (notes_of walk p.thread) p.step (omega (arith, within, many)) within here)));
  only = λ (p : Pos) (i : In p (accesses_of walk)).
      let a : AccessIn 0 walk.places walk.notes p = access_in 0 walk.places walk.notes p i in
      let q : Pos = step_of a.number a.at.number in
      let counted : Counted log q = counted_place image log walk is q a.at.within in
      let first : a.number ≡ 0 + a.number = omega arith in
      let from : a.at.number ≡ 0 + a.at.number = omega arith in
      let same : q ≡ p = ap (λ (t : ℕ). step_of t a.at.number) first ∙ ap (step_of (0 + a.number)) from ∙ a.at.is in
      subst (IsAccess log walk) same (counted, ap (is_access (instr_of_step walk q)) (noted_step log walk q a.at.within) ∙ a.at.access);
  once = sorted_once (accesses_of walk) (sorted_by 0 walk.places walk.notes);
}

pub accesses_law : AccessesLaw
accesses_law image log walk is =
    let lists : Lists (IsAccess log walk) (accesses_of walk) = lists_accesses image log walk is in
    record {
      lists = lists;
      sorted = sorted_stands (accesses_of walk) (sorted_by 0 walk.places walk.notes);
      count = λ (steps : List Pos) (other : Lists (IsAccess log walk) steps).
          let fewer : length steps ≤ length (accesses_of walk) =
          no_more steps (accesses_of walk) other.once (λ (p : Pos) (i : In p steps). lists.all p (other.only p i)) in
          let more : length (accesses_of walk) ≤ length steps =
          no_more (accesses_of walk) steps lists.once (λ (p : Pos) (i : In p (accesses_of walk)). other.all p (lists.only p i)) in
          omega (arith, fewer, more);
    }

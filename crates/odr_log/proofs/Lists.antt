-- Reading so many values belongs to spelling them one after the other.
use Rattle.std.proofs.Common.{◌≡◌, ℕ, zero, suc, List, [], ◌∷◌, length, Result, Ok, refl, ap, ◌∙◌, arith}
use Rattle.std.specs.Prelude.{replicate}
use Rattle.std.specs.List.{flat_map, AllByRecursion}
use Rattle.std.proofs.lemmas.List.{nil_from_length}
use Rattle.odr_log.specs.Reading.{◌>>=◌, list_at}
use Rattle.odr_log.proofs.Readers.{IsReader, then-reader, done-reader, made-reader}

-- so many values that fit
abbrev pub AreListed : {T : Type 0} → (T → Type 0) → ℕ → List T → Type 0
AreListed F n xs = (length xs ≡ n) × AllByRecursion F xs

abbrev head_or : {T : Type 0} → T → List T → T
head_or d [] = d
head_or d (x ∷ xs) = x

abbrev tail_of : {T : Type 0} → List T → List T
tail_of [] = []
tail_of (x ∷ xs) = xs

copies : {T : Type 0} (F : T → Type 0) (d : T) → F d → (n : ℕ) → AreListed F n (replicate n d)
copies F d fits zero = (refl, tt)
copies F d fits (suc n) = (ap suc (copies F d fits n).0, (fits, (copies F d fits n).1))

tail-listed : {T : Type 0} (F : T → Type 0) (n : ℕ) (xs : List T) → AreListed F (suc n) xs → AreListed F n (tail_of xs)
tail-listed F n [] h = absurd (omega (arith, h.0))
tail-listed F n (x ∷ xs) h = (omega (arith, h.0), h.1.1)

head-fits : {T : Type 0} (F : T → Type 0) (d : T) (n : ℕ) (xs : List T) → AreListed F (suc n) xs → F (head_or d xs)
head-fits F d n [] h = absurd (omega (arith, h.0))
head-fits F d n (x ∷ xs) h = h.1.0

head-tail : {T : Type 0} (F : T → Type 0) (d : T) (n : ℕ) (xs : List T) → AreListed F (suc n) xs → xs ≡ head_or d xs ∷ tail_of xs
head-tail F d n [] h = absurd (omega (arith, h.0))
head-tail F d n (x ∷ xs) h = refl

pub list-reader : {T : Type 0} (F : T → Type 0) (t : T → List ℕ) (p : List ℕ → Result (T × List ℕ) ℕ) → IsReader F t p → (d : T) → F d → (n : ℕ)
    → IsReader (AreListed F n) (flat_map t) (list_at p n)
unfolding list_at
list-reader {T} F t p one d fits zero = done-reader (AreListed F 0) (flat_map t) [] (refl, tt) (λ y h. nil_from_length y h.0) refl
list-reader {T} F t p one d fits (suc n) =
    let G = AreListed F (suc n) in
    let rest_text : List T → List ℕ = λ xs. flat_map t (tail_of xs) in
    then-reader F t p G (flat_map t) (head_or d) rest_text (λ first bytes. list_at p n bytes >>= λ others. Ok (first ∷ others.0, others.1)) one
    (λ x f. made-reader (AreListed F n) (flat_map t) (list_at p n) (λ xs. G xs × (head_or d xs ≡ x)) rest_text (λ others. x ∷ others) (list-reader F t p one d fits n)
    (record {
      some = λ others g. (((ap suc g.0, (f, g.1)), refl), refl);
      made = λ xs g. (tail_of xs, tail-listed F n xs g.0, head-tail F d n xs g.0 ∙ ap (λ y. y ∷ tail_of xs) g.1);
    }))
    (record {
      fits = λ xs g. head-fits F d n xs g;
      text = λ xs g. ap (flat_map t) (head-tail F d n xs g);
      some = λ x f. (x ∷ replicate n d, (ap suc (copies F d fits n).0, (f, (copies F d fits n).1)), refl);
    })

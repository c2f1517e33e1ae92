-- Whether the writes of an access touch a word.
use Rattle.std.specs.Prelude.{◌≡◌, ◌⊎◌, ℕ, zero, suc, ◌/◌, ◌^◌, ◌<◌, ◌≤◌, Bool, true, false, ◌||◌, List, [], length, refl}
use Rattle.std.proofs.Common.{sym, ◌∙◌, ap, arith, inl, inr, eq-eqb}
use Rattle.std.proofs.lemmas.Bool.{cases_lt, eqb-true}
use Rattle.elf_image.specs.Memory.{writes_of}
use Rattle.rv_model.specs.Thread.{touches}
use Rattle.guided_walk.specs.Fits.{byte_address}
use Rattle.walk_facts.specs.Bytes.{AreWrites}
use Rattle.walk_facts.proofs.Writes.{address_law, writes_law}
use Rattle.hit_terms.specs.Hits.{is_in_word, place_of, reaches_word}

or_either : (p q : Bool) → (p || q) ≡ true → (p ≡ true) ⊎ (q ≡ true)
or_either true q e = inl refl
or_either false q e = inr e

or_first : (p q : Bool) → p ≡ true → (p || q) ≡ true
or_first p q e = ap (λ (b : Bool). b || q) e

or_second : (p q : Bool) → q ≡ true → (p || q) ≡ true
or_second true q e = refl
or_second false q e = e

same_bool : (a b : Bool) → (a ≡ true → b ≡ true) → (b ≡ true → a ≡ true) → a ≡ b
same_bool true b to from = sym (to refl)
same_bool false true to from = from refl
same_bool false false to from = refl

reaches_to : (count a l : ℕ) → reaches_word count a l ≡ true → (i : ℕ) × (i < count) × (is_in_word (place_of a i) l ≡ true)
reaches_to zero a l e = absurd (let h : false ≡ true = e in cc)
reaches_to (suc m) a l e = elim (or_either (reaches_word m a l) (is_in_word (place_of a m) l) e) [
  | inl before ↦ let found : (i : ℕ) × (i < m) × (is_in_word (place_of a i) l ≡ true) = reaches_to m a l before in (found.0, omega (arith, found.1), found.2)
  | inr here ↦ (m, omega arith, here)
]

reaches_from : (count a l i : ℕ) → i < count → is_in_word (place_of a i) l ≡ true → reaches_word count a l ≡ true
reaches_from zero a l i less e = absurd (omega (arith, less))
reaches_from (suc m) a l i less e = elim (cases_lt i m) [
  | inl before ↦ or_first (reaches_word m a l) (is_in_word (place_of a m) l) (reaches_from m a l i before e)
  | inr past ↦ let same : i ≡ m = omega (arith, less, past) in
      or_second (reaches_word m a l) (is_in_word (place_of a m) l) (sym (ap (λ (k : ℕ). is_in_word (place_of a k) l) same) ∙ e)
]

pub touches_by : (a : ℕ) (bytes : List ℕ) (l : ℕ) → a < 2 ^ 32 → length bytes ≤ 2 ^ 32 → touches (writes_of a bytes []) l ≡ reaches_word (length bytes) a l
touches_by a bytes l below few =
    let are : AreWrites a bytes = writes_law a bytes few in
    same_bool (touches (writes_of a bytes []) l) (reaches_word (length bytes) a l)
    (λ (e : touches (writes_of a bytes []) l ≡ true).
    let found : (i : ℕ) × (i < length bytes) × (byte_address a i / 4 ≡ l / 4) = (are.touched l).0 e in
    reaches_from (length bytes) a l found.0 found.1
    (eq-eqb (place_of a found.0 / 4) (l / 4) (sym (ap (λ (n : ℕ). n / 4) ((address_law a).row below found.0)) ∙ found.2)))
    (λ (e : reaches_word (length bytes) a l ≡ true).
    let found : (i : ℕ) × (i < length bytes) × (is_in_word (place_of a i) l ≡ true) = reaches_to (length bytes) a l e in
    (are.touched l).1 (found.0, found.1, ap (λ (n : ℕ). n / 4) ((address_law a).row below found.0) ∙ eqb-true (place_of a found.0 / 4) (l / 4) found.2))

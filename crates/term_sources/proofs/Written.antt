-- The newest byte at an address among the writes of one access.
use Rattle.std.specs.Prelude.{◌≡◌, ◌⊎◌, ℕ, zero, suc, ◌+◌, ◌%◌, ◌^◌, ◌<◌, ◌≤◌, Bool, true, false, cond, List, [], ◌∷◌, length, nat_eq, Some, slice_index_or, refl}
use Rattle.std.proofs.Common.{sym, ◌∙◌, ap, arith, inl, inr, eq-eqb}
use Rattle.std.proofs.lemmas.Bool.{cases_lt, eqb-true, ne_eqb, false≢true}
use Rattle.std.proofs.lemmas.Option.{none-some, same_Some}
use Rattle.elf_image.specs.declared.write.Write.{Write}
use Rattle.elf_image.specs.Memory.{next, writes_of}
use Rattle.access_fits.specs.Fitting.{newest_in}
use Rattle.hit_terms.specs.Hits.{place_of}

-- a byte at an address, if it is there
head_at : (x b : ℕ) (older : List Write) (a : ℕ) (found : Bool) → nat_eq a x ≡ found
    → newest_in ((let w : Write = record { address = a; byte = b } in w) ∷ older) x ≡ cond found (Some b) (newest_in older x)
head_at x b older a found e = ap (λ (t : Bool). cond t (Some b) (newest_in older x)) e

-- what none of the bytes is at stays as it was
pub newest_elsewhere : (a : ℕ) (bytes : List ℕ) (older : List Write) (x : ℕ) → a < 2 ^ 32 → ((m : ℕ) → m < length bytes → place_of a m ≡ x → ⊥)
    → newest_in (writes_of a bytes older) x ≡ newest_in older x
newest_elsewhere a [] older x below none = refl
newest_elsewhere a (b ∷ bytes) older x below none =
    let here : a ≡ x → ⊥ = λ (e : a ≡ x). none 0 (omega arith) (let same : (a + 0) % 2 ^ 32 ≡ a = omega (arith, below) in same ∙ e) in
    newest_elsewhere (next a) bytes (record { address = a; byte = b } ∷ older) x (omega arith)
    (λ (m : ℕ) (less : m < length bytes) (e : place_of (next a) m ≡ x).
    none (suc m) (omega (arith, less)) (let same : (a + suc m) % 2 ^ 32 ≡ ((a + 1) % 2 ^ 32 + m) % 2 ^ 32 = omega arith in same ∙ e))
    ∙ head_at x b older a false (ne_eqb a x here)

-- a byte is the newest at its address
pub newest_there : (a : ℕ) (bytes : List ℕ) (older : List Write) (m : ℕ) → a < 2 ^ 32 → length bytes ≤ 2 ^ 32 → m < length bytes
    → newest_in (writes_of a bytes older) (place_of a m) ≡ Some (slice_index_or bytes m 0)
newest_there a [] older m below few less = absurd (omega (arith, less))
newest_there a (b ∷ bytes) older zero below few less =
    let same : (a + 0) % 2 ^ 32 ≡ a = omega (arith, below) in
    newest_elsewhere (next a) bytes (record { address = a; byte = b } ∷ older) (place_of a 0) (omega arith)
    (λ (k : ℕ) (within : k < length bytes) (e : place_of (next a) k ≡ place_of a 0). omega (arith, e, within, few, below))
    ∙ head_at (place_of a 0) b older a true (eq-eqb a (place_of a 0) (sym same))
newest_there a (b ∷ bytes) older (suc m) below few less =
    let same : (a + suc m) % 2 ^ 32 ≡ ((a + 1) % 2 ^ 32 + m) % 2 ^ 32 = omega arith in
    ap (newest_in (writes_of (next a) bytes (record { address = a; byte = b } ∷ older))) same
    ∙ newest_there (next a) bytes (record { address = a; byte = b } ∷ older) m (omega arith) (omega (arith, few)) (omega (arith, less))

-- one of the first bytes is at an address, or none is
cases_last : (m count : ℕ) → m < suc count → (m ≡ count) ⊎ (m < count)
cases_last m count less = elim (cases_lt m count) [ inl before ↦ inr before | inr past ↦ inl (omega (arith, less, past)) ]

pub at_or_none : (a count x : ℕ) → ((m : ℕ) × (m < count) × (place_of a m ≡ x)) ⊎ ((m : ℕ) → m < count → place_of a m ≡ x → ⊥)
at_or_none a zero x = inr (λ (m : ℕ) (less : m < 0) (e : place_of a m ≡ x). omega (arith, less))
at_or_none a (suc count) x = by_test (nat_eq (place_of a count) x) refl (at_or_none a count x) where
  by_test : (b : Bool) → nat_eq (place_of a count) x ≡ b
      → ((m : ℕ) × (m < count) × (place_of a m ≡ x)) ⊎ ((m : ℕ) → m < count → place_of a m ≡ x → ⊥)
      → ((m : ℕ) × (m < suc count) × (place_of a m ≡ x)) ⊎ ((m : ℕ) → m < suc count → place_of a m ≡ x → ⊥)
  by_test true e rest = inl (count, omega arith, eqb-true (place_of a count) x e)
  by_test false e (inl found) = inl (found.0, omega (arith, found.1), found.2)
  by_test false e (inr none) = inr (λ (m : ℕ) (less : m < suc count) (same : place_of a m ≡ x). elim (cases_last m count less) [
    | inl last ↦ false≢true (sym e ∙ eq-eqb (place_of a count) x (ap (place_of a) (sym last) ∙ same))
    | inr before ↦ none m before same
  ])

-- what an access writes at an address is one of its bytes
pub newest_is : (a : ℕ) (bytes : List ℕ) (x b : ℕ) → a < 2 ^ 32 → length bytes ≤ 2 ^ 32 → newest_in (writes_of a bytes []) x ≡ Some b
    → (m : ℕ) × (m < length bytes) × (place_of a m ≡ x) × (b ≡ slice_index_or bytes m 0)
newest_is a bytes x b below few e = elim (at_or_none a (length bytes) x) [
  | inl found ↦ (
    found.0,
    found.1,
    found.2,
    same_Some b (slice_index_or bytes found.0 0) (sym e ∙ ap (newest_in (writes_of a bytes [])) (sym found.2) ∙ newest_there a bytes [] found.0 below few found.1),
  )
  | inr none ↦ absurd (none-some b (sym (newest_elsewhere a bytes [] x below none) ∙ e))
]

pub length_writes : (a : ℕ) (bytes : List ℕ) (older : List Write) → length (writes_of a bytes older) ≡ length bytes + length older
length_writes a [] older = omega arith
length_writes a (b ∷ bytes) older =
    let same : length bytes + suc (length older) ≡ suc (length bytes) + length older = omega arith in
    length_writes (next a) bytes (record { address = a; byte = b } ∷ older) ∙ same

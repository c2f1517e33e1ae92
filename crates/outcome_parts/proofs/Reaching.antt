-- A write of 2^32 - 1 bytes or more has a byte in each word.
use Rattle.std.specs.Prelude.{◌≡◌, ℕ, zero, suc, ◌+◌, ◌-◌, ◌*◌, ◌/◌, ◌%◌, ◌<◌, ◌≤◌, ◌^◌, Bool, true, ◌&&◌, nat_eq}
use Rattle.std.proofs.Common.{sym, ◌∙◌, ap, subst, inl, inr, arith}
use Rattle.std.proofs.lemmas.Bool.{cases_lt, eq-eqb, or_left, or_right}
use Rattle.bv_terms.specs.BitVectors.{bit_of}
use Rattle.hit_terms.specs.Hits.{is_in_word, is_touch, place_of, reaches_word}

-- one of the bytes is in the word
reached : (count address reserved m : ℕ) → m < count → is_in_word (place_of address m) reserved ≡ true → reaches_word count address reserved ≡ true
reached zero address reserved m less is = absurd (omega (arith, less))
reached (suc more) address reserved m less is = elim (cases_lt m more) [
  | inl inside ↦ or_left (reaches_word more address reserved) (is_in_word (place_of address more) reserved) (reached more address reserved m inside is)
  | inr above ↦ let last : m ≡ more = omega (arith, less, above) in
      or_right (reaches_word more address reserved) (is_in_word (place_of address more) reserved)
      (subst (λ (n : ℕ). is_in_word (place_of address n) reserved ≡ true) last is)
]

-- how far the word begins behind an address
abbrev ahead : (address reserved : ℕ) → ℕ
ahead address reserved = (reserved / 4 * 4 + (2 ^ 32 - address)) % 2 ^ 32

first_place : (a r : ℕ) → a < 2 ^ 32 → r < 2 ^ 32 → (a + (r / 4 * 4 + (2 ^ 32 - a)) % 2 ^ 32) % 2 ^ 32 / 4 ≡ r / 4
first_place a r below_a below_r = omega (arith, below_a, below_r)

-- where it begins at the byte before the address, the byte at the address is in it too
next_place : (a r : ℕ) → a < 2 ^ 32 → r < 2 ^ 32 → 2 ^ 32 - 1 ≤ (r / 4 * 4 + (2 ^ 32 - a)) % 2 ^ 32 → (a + 0) % 2 ^ 32 / 4 ≡ r / 4
next_place a r below_a below_r far = omega (arith, below_a, below_r, far)

all_reached : (count a r : ℕ) → a < 2 ^ 32 → r < 2 ^ 32 → 2 ^ 32 - 1 ≤ count → reaches_word count a r ≡ true
all_reached count a r below_a below_r many = elim (cases_lt (ahead a r) (2 ^ 32 - 1)) [
  | inl less ↦ reached count a r (ahead a r) (omega (arith, less, many)) (eq-eqb (place_of a (ahead a r) / 4) (r / 4) (first_place a r below_a below_r))
  | inr far ↦ reached count a r 0 (omega (arith, many)) (eq-eqb (place_of a 0 / 4) (r / 4) (next_place a r below_a below_r far))
]

-- so many bytes reach as much as more of them do
pub reach_alike : (count length a r : ℕ) → a < 2 ^ 32 → r < 2 ^ 32 → 2 ^ 32 - 1 ≤ count → 2 ^ 32 - 1 ≤ length → reaches_word count a r ≡ reaches_word length a r
reach_alike count length a r below_a below_r many more =
    all_reached count a r below_a below_r many ∙ sym (all_reached length a r below_a below_r more)

-- so many of some bytes as count
pub touch_alike : (guard count length a r : ℕ) → a < 2 ^ 32 → r < 2 ^ 32 → (length < 2 ^ 32 - 1 → count ≡ length) → (2 ^ 32 - 1 ≤ length → count ≡ 2 ^ 32 - 1)
    → bit_of (is_touch guard count a r) ≡ bit_of (is_touch guard length a r)
touch_alike guard count length a r below_a below_r few many = ap (λ (b : Bool). bit_of (nat_eq guard 1 && b)) (elim (cases_lt length (2 ^ 32 - 1)) [
  | inl less ↦ ap (λ (n : ℕ). reaches_word n a r) (few less)
  | inr more ↦ let all = many more in reach_alike count length a r below_a below_r (omega (arith, all)) more
])

-- of a list, whose length was told
pub touch_counted : (guard count length a r : ℕ) → a < 2 ^ 32 → r < 2 ^ 32 → (told : ℕ) → told ≡ length → (told < 2 ^ 32 - 1 → count ≡ told)
    → (2 ^ 32 - 1 ≤ told → count ≡ 2 ^ 32 - 1) → bit_of (is_touch guard count a r) ≡ bit_of (is_touch guard length a r)
touch_counted guard count length a r below_a below_r told same few many =
    touch_alike guard count told a r below_a below_r few many ∙ ap (λ (n : ℕ). bit_of (is_touch guard n a r)) same

-- Words as signed numbers, case by case.
use Rattle.std.proofs.Common.{◌≡◌, ℕ, zero, suc, ◌+◌, ◌-◌, ◌/◌, ◌%◌, ◌^◌, ◌<◌, ◌≤◌, Bool, true, false, cond, refl, sym, ◌∙◌, ap, inl, inr, arith, nat_lt}
use Rattle.std.specs.Prelude.{nat_le, pos, negsuc}
use Rattle.std.proofs.Math.IntN.{neg_ℤ}
use Rattle.std.proofs.lemmas.Bool.{cases_lt}
use Rattle.std.proofs.lemmas.Bool.Decides.{nat_tests}
use Rattle.rv_model.specs.Values.{to_signed, word_of}

pub lt_yes : (a b : ℕ) → a < b → nat_lt a b ≡ true
lt_yes a b h = grind (arith, nat_tests, h)

pub lt_no : (a b : ℕ) → b ≤ a → nat_lt a b ≡ false
lt_no a b h = grind (arith, nat_tests, h)

pub le_yes : (a b : ℕ) → a ≤ b → nat_le a b ≡ true
le_yes a b h = grind (arith, nat_tests, h)

pub le_no : (a b : ℕ) → b < a → nat_le a b ≡ false
le_no a b h = grind (arith, nat_tests, h)

pub same_lt : (a b c d : ℕ) → (a < b → c < d) → (b ≤ a → d ≤ c) → nat_lt a b ≡ nat_lt c d
same_lt a b c d below above = elim (cases_lt a b) [
  | inl h ↦ lt_yes a b h ∙ sym (lt_yes c d (below h))
  | inr h ↦ lt_no a b h ∙ sym (lt_no c d (above h))
]

-- a word below 2 ^ 31 is its own number, another one lacks 2 ^ 32
pub data Signed (a : ℕ) : Type 0 where
  Positive : a < 2 ^ 31 → to_signed a ≡ pos a → nat_le (2 ^ 31) a ≡ false → a / 2 ^ 31 % 2 ≡ 0 → Signed a
  Negative : (n : ℕ) → a + suc n ≡ 2 ^ 32 → n < 2 ^ 31 → to_signed a ≡ negsuc n → nat_le (2 ^ 31) a ≡ true → a / 2 ^ 31 % 2 ≡ 1 → Signed a

by_test : (a : ℕ) (test : Bool) → nat_lt a (2 ^ 31) ≡ test → to_signed a ≡ cond test (pos a) (negsuc (2 ^ 32 - 1 - a))
by_test a test e = ap (λ t. cond t (pos a) (negsuc (2 ^ 32 - 1 - a))) e

pub signed : (a : ℕ) → a < 2 ^ 32 → Signed a
signed a below = elim (cases_lt a (2 ^ 31)) [
  | inl h ↦ Positive h (by_test a true (lt_yes a (2 ^ 31) h)) (le_no (2 ^ 31) a h) (omega (arith, h))
  | inr h ↦ Negative (2 ^ 32 - 1 - a) (omega (arith, below, h)) (omega (arith, below, h)) (by_test a false (lt_no a (2 ^ 31) h)) (le_yes (2 ^ 31) a h) (omega (arith, below, h))
]

-- ---- the word of a number

pub word_pos : (x : ℕ) → x < 2 ^ 32 → word_of (pos x) ≡ x
word_pos x h = omega (arith, h)

pub word_negsuc : (x : ℕ) → x < 2 ^ 32 → word_of (negsuc x) ≡ 2 ^ 32 - 1 - x
word_negsuc x h = omega (arith, h)

pub word_neg : (x : ℕ) → x ≤ 2 ^ 32 → word_of (neg_ℤ (pos x)) ≡ (2 ^ 32 - x) % 2 ^ 32
word_neg zero h = refl
word_neg (suc x) h = omega (arith, h)

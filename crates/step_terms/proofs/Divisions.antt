-- Signed division by magnitudes.
use Rattle.std.proofs.Common.{◌≡◌, ℕ, suc, ◌+◌, ◌-◌, ◌/◌, ◌%◌, ◌^◌, ◌<◌, ◌≤◌, false, cond, refl, sym, ◌∙◌, ap, subst, inl, inr, arith, nat_eq}
use Rattle.std.specs.Prelude.{ℤ, pos, negsuc, int_div, int_rem, bit_xor, unsigned_abs}
use Rattle.std.proofs.Math.IntN.{neg_ℤ}
use Rattle.std.proofs.Math.Nat.{div-le_self, mod-le}
use Rattle.std.proofs.lemmas.Bool.{cases_eq}
use Rattle.std.proofs.lemmas.Bool.Decides.{nat_tests}
use Rattle.rv32_decode.specs.declared.instr.AluOp.TheVariants as alu
use Rattle.bv_terms.specs.BitVectors.{bits, udiv_value, urem_value}
use Rattle.rv_model.specs.Values.{alu_of, to_signed, word_of}
use Rattle.step_terms.specs.Division.{magnitude, negated_if, sign, signed_quotient, signed_remainder}
use Rattle.step_terms.proofs.Signs.{Signed, Positive, Negative, signed, word_pos, word_neg}

eq_no : (a : ℕ) → 0 < a → nat_eq a 0 ≡ false
eq_no a h = grind (arith, nat_tests, h)

magnitude_positive : (a : ℕ) → sign a ≡ 0 → magnitude a ≡ a
magnitude_positive a e = ap (λ s. negated_if s a) e

magnitude_negative : (a n : ℕ) → a + suc n ≡ 2 ^ 32 → sign a ≡ 1 → magnitude a ≡ suc n
magnitude_negative a n h e = ap (λ s. negated_if s a) e ∙ omega (arith, h)

divided : (a b : ℕ) → 0 < b → udiv_value (bits 32 a) (bits 32 b) ≡ a / b
divided a b h = ap (λ t. cond t (2 ^ 32 - 1) (a / b)) (eq_no b h)

-- the quotient, of which the parts are known
quotient_by : (a b s t x y : ℕ) → sign a ≡ s → sign b ≡ t → magnitude a ≡ x → magnitude b ≡ y → 0 < y → signed_quotient a b ≡ negated_if (bit_xor s t) (x / y)
quotient_by a b s t x y sa sb ma mb h =
    ap (λ u. negated_if (bit_xor u (sign b)) (udiv_value (bits 32 (magnitude a)) (bits 32 (magnitude b)))) sa
    ∙ ap (λ u. negated_if (bit_xor s u) (udiv_value (bits 32 (magnitude a)) (bits 32 (magnitude b)))) sb
    ∙ ap (λ u. negated_if (bit_xor s t) (udiv_value (bits 32 u) (bits 32 (magnitude b)))) ma
    ∙ ap (λ u. negated_if (bit_xor s t) (udiv_value (bits 32 x) (bits 32 u))) mb
    ∙ ap (λ u. negated_if (bit_xor s t) u) (divided x y h)

of_signs : (a b : ℕ) (s t : ℤ) → to_signed a ≡ s → to_signed b ≡ t → word_of (int_div (to_signed a) (to_signed b)) ≡ word_of (int_div s t)
of_signs a b s t e f = ap (λ x. word_of (int_div x (to_signed b))) e ∙ ap (λ y. word_of (int_div s y)) f

few : (x y : ℕ) → x ≤ 2 ^ 31 → x / y ≤ 2 ^ 31
few x y h = let le = div-le_self x y in omega (arith, le, h)

quotient_signed : (a b : ℕ) → 0 < b → Signed a → Signed b → signed_quotient a b ≡ word_of (int_div (to_signed a) (to_signed b))
quotient_signed a b h (Positive la ea na sa) (Positive lb eb nb sb) =
    quotient_by a b 0 0 a b sa sb (magnitude_positive a sa) (magnitude_positive b sb) h
    ∙ sym (word_pos (a / b) (let k = few a b (omega (arith, la)) in omega (arith, k))) ∙ sym (of_signs a b (pos a) (pos b) ea eb)
quotient_signed a b h (Positive la ea na sa) (Negative n kb lb eb nb sb) =
    quotient_by a b 0 1 a (suc n) sa sb (magnitude_positive a sa) (magnitude_negative b n kb sb) (omega arith)
    ∙ sym (word_neg (a / suc n) (let k = few a (suc n) (omega (arith, la)) in omega (arith, k))) ∙ sym (of_signs a b (pos a) (negsuc n) ea eb)
quotient_signed a b h (Negative m ka la ea na sa) (Positive lb eb nb sb) =
    quotient_by a b 1 0 (suc m) b sa sb (magnitude_negative a m ka sa) (magnitude_positive b sb) h
    ∙ sym (word_neg (suc m / b) (let k = few (suc m) b (omega (arith, la)) in omega (arith, k))) ∙ sym (of_signs a b (negsuc m) (pos b) ea eb)
quotient_signed a b h (Negative m ka la ea na sa) (Negative n kb lb eb nb sb) =
    quotient_by a b 1 1 (suc m) (suc n) sa sb (magnitude_negative a m ka sa) (magnitude_negative b n kb sb) (omega arith)
    ∙ sym (word_pos (suc m / suc n) (let k = few (suc m) (suc n) (omega (arith, la)) in omega (arith, k))) ∙ sym (of_signs a b (negsuc m) (negsuc n) ea eb)

-- a division by zero, or the quotient
pub divide : (a b : ℕ) → a < 2 ^ 32 → b < 2 ^ 32 → cond (nat_eq b 0) (2 ^ 32 - 1) (signed_quotient a b) ≡ alu_of alu.Div a b
unfolding alu_of
divide a b ha hb = elim (cases_eq b 0) [
  | inl e ↦ subst (λ n. cond (nat_eq n 0) (2 ^ 32 - 1) (signed_quotient a n) ≡ cond (nat_eq n 0) (2 ^ 32 - 1) (word_of (int_div (to_signed a) (to_signed n)))) (sym e) refl
  | inr other ↦
      let above : 0 < b = omega (arith, other) in
      ap (λ x. cond (nat_eq b 0) (2 ^ 32 - 1) x) (quotient_signed a b above (signed a ha) (signed b hb))
]

-- ---- remainders

absolute : (b : ℕ) → Signed b → unsigned_abs (to_signed b) ≡ magnitude b
absolute b (Positive lb eb nb sb) = ap (λ x. unsigned_abs x) eb ∙ sym (magnitude_positive b sb)
absolute b (Negative n kb lb eb nb sb) = ap (λ x. unsigned_abs x) eb ∙ sym (magnitude_negative b n kb sb)

zero_magnitude : (b : ℕ) → Signed b → magnitude b ≡ 0 → b ≡ 0
zero_magnitude b (Positive lb eb nb sb) e = sym (magnitude_positive b sb) ∙ e
zero_magnitude b (Negative n kb lb eb nb sb) e = absurd (omega (arith, e, magnitude_negative b n kb sb))

remainder_by : (a b s x y : ℕ) → sign a ≡ s → magnitude a ≡ x → magnitude b ≡ y → signed_remainder a b ≡ negated_if s (urem_value (bits 32 x) (bits 32 y))
remainder_by a b s x y sa ma mb =
    ap (λ u. negated_if u (urem_value (bits 32 (magnitude a)) (bits 32 (magnitude b)))) sa
    ∙ ap (λ u. negated_if s (urem_value (bits 32 u) (bits 32 (magnitude b)))) ma
    ∙ ap (λ u. negated_if s (urem_value (bits 32 x) (bits 32 u))) mb

left_over : (x y : ℕ) → 0 < y → urem_value (bits 32 x) (bits 32 y) ≡ x % y
left_over x y h = ap (λ t. cond t x (x % y)) (eq_no y h)

remainder_zero : (a b : ℕ) → b ≡ 0 → Signed a → signed_remainder a b ≡ a
remainder_zero a b e (Positive la ea na sa) = remainder_by a b 0 a 0 sa (magnitude_positive a sa) (ap magnitude e)
remainder_zero a b e (Negative n ka la ea na sa) = remainder_by a b 1 (suc n) 0 sa (magnitude_negative a n ka sa) (ap magnitude e) ∙ omega (arith, ka)

rem_of_signs : (a b y : ℕ) (s : ℤ) → to_signed a ≡ s → word_of (int_rem (to_signed a) (to_signed b)) ≡ word_of (int_rem s (to_signed b))
rem_of_signs a b y s e = ap (λ x. word_of (int_rem x (to_signed b))) e

remainder_signed : (a b : ℕ) → 0 < magnitude b → Signed a → unsigned_abs (to_signed b) ≡ magnitude b → signed_remainder a b ≡ word_of (int_rem (to_signed a) (to_signed b))
remainder_signed a b h (Positive la ea na sa) abs =
    let le = mod-le a (magnitude b) in
    remainder_by a b 0 a (magnitude b) sa (magnitude_positive a sa) refl ∙ left_over a (magnitude b) h
    ∙ sym (word_pos (a % magnitude b) (omega (arith, le, la))) ∙ ap (λ d. word_of (pos (a % d))) (sym abs) ∙ sym (rem_of_signs a b 0 (pos a) ea)
remainder_signed a b h (Negative n ka la ea na sa) abs =
    let le = mod-le (suc n) (magnitude b) in
    remainder_by a b 1 (suc n) (magnitude b) sa (magnitude_negative a n ka sa) refl ∙ ap (λ x. (2 ^ 32 - x) % 2 ^ 32) (left_over (suc n) (magnitude b) h)
    ∙ sym (word_neg (suc n % magnitude b) (omega (arith, le, la))) ∙ ap (λ d. word_of (neg_ℤ (pos (suc n % d)))) (sym abs) ∙ sym (rem_of_signs a b 0 (negsuc n) ea)

pub remainder : (a b : ℕ) → a < 2 ^ 32 → b < 2 ^ 32 → signed_remainder a b ≡ alu_of alu.Rem a b
unfolding alu_of
remainder a b ha hb = elim (cases_eq b 0) [
  | inl e ↦ remainder_zero a b e (signed a ha) ∙ ap (λ n. cond (nat_eq n 0) a (word_of (int_rem (to_signed a) (to_signed n)))) (sym e)
  | inr other ↦
      let above : 0 < b = omega (arith, other) in
      let some : 0 < magnitude b = elim (cases_eq (magnitude b) 0) [
        | inl e ↦ absurd (other (zero_magnitude b (signed b hb) e))
        | inr more ↦ omega (arith, more)
      ] in
      remainder_signed a b some (signed a ha) (absolute b (signed b hb)) ∙ ap (λ t. cond t a (word_of (int_rem (to_signed a) (to_signed b)))) (sym (eq_no b above))
]

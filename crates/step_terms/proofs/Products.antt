-- High words of products, by products of 64 bits.
use Rattle.std.proofs.Common.{◌≡◌, ℕ, zero, suc, ◌+◌, ◌-◌, ◌*◌, ◌/◌, ◌%◌, ◌^◌, ◌<◌, ◌≤◌, true, false, cond, refl, sym, ◌∙◌, ap, arith}
use Rattle.std.specs.Prelude.{nat_le, ℤ, pos, negsuc, ◌*ℤ◌}
use Rattle.std.proofs.Math.IntN.{neg_ℤ}
use Rattle.std.proofs.Math.Nat.{add-mul, mul-add}
use Rattle.std.proofs.lemmas.Nat.{mul-lt}
use Rattle.rv32_decode.specs.declared.instr.AluOp.TheVariants as alu
use Rattle.rv_model.specs.Values.{alu_of, to_signed, high_of}
use Rattle.step_terms.specs.Division.{extended, high_product}
use Rattle.step_terms.proofs.Signs.{Signed, Positive, Negative, signed}

extend_positive : (a : ℕ) → nat_le (2 ^ 31) a ≡ false → extended a ≡ a
extend_positive a e = ap (λ t. cond t (a + (2 ^ 64 - 2 ^ 32)) a) e

extend_negative : (a n : ℕ) → a + suc n ≡ 2 ^ 32 → nat_le (2 ^ 31) a ≡ true → extended a + suc n ≡ 2 ^ 64
extend_negative a n h e = omega (arith, h, ap (λ t. cond t (a + (2 ^ 64 - 2 ^ 32)) a) e)

-- ---- the high word of a number, and of what it is modulo 2 ^ 64

high_pos : (p : ℕ) → p % 2 ^ 64 / 2 ^ 32 % 2 ^ 32 ≡ high_of (pos p)
high_pos p = omega arith

-- r below 2 ^ 64 is taken from a multiple of 2 ^ 64
high_neg : (p k r : ℕ) → p + r ≡ 2 ^ 64 * k → r < 2 ^ 64 → p % 2 ^ 64 / 2 ^ 32 % 2 ^ 32 ≡ high_of (neg_ℤ (pos r))
high_neg p k zero e h = omega (arith, e)
high_neg p k (suc r) e h = omega (arith, e, h)

-- a product of two numbers, of which the second one is taken from 2 ^ 64
one_negative : (x b n : ℕ) → b + n ≡ 2 ^ 64 → x * b + x * n ≡ 2 ^ 64 * x
one_negative x b n e = sym (mul-add x b n) ∙ ap (λ t. x * t) e ∙ omega arith

-- the same of both
both_negative : (a m b n : ℕ) → a + m ≡ 2 ^ 64 → b + n ≡ 2 ^ 64 → a * b % 2 ^ 64 ≡ m * n % 2 ^ 64
both_negative a m b n e f =
    let first : a * b + m * b ≡ 2 ^ 64 * b = sym (add-mul a m b) ∙ ap (λ t. t * b) e in
    let second : m * b + m * n ≡ 2 ^ 64 * m = one_negative m b n f in
    omega (arith, first, second)

small : (m n : ℕ) → m ≤ 2 ^ 31 → n < 2 ^ 32 → m * n < 2 ^ 64
small m n h k = let below = mul-lt m n (2 ^ 32) (2 ^ 32) (omega (arith, h)) k in omega (arith, below)

times_neg : (a n : ℕ) → pos a *ℤ negsuc n ≡ neg_ℤ (pos (a * suc n))
times_neg a n = refl

neg_times : (m b : ℕ) → negsuc m *ℤ pos b ≡ neg_ℤ (pos (suc m * b))
neg_times m b = refl

neg_times_neg : (m n : ℕ) → negsuc m *ℤ negsuc n ≡ pos (suc m * suc n)
neg_times_neg m n = refl

pub high_unsigned : (a b : ℕ) → a < 2 ^ 32 → b < 2 ^ 32 → high_product a b ≡ alu_of alu.Mulhu a b
unfolding alu_of
high_unsigned a b ha hb = let below = mul-lt a b (2 ^ 32) (2 ^ 32) ha hb in omega (arith, below)

pub high_mixed : (a b : ℕ) → a < 2 ^ 32 → b < 2 ^ 32 → high_product (extended a) b ≡ alu_of alu.Mulhsu a b
unfolding alu_of
high_mixed a b ha hb = by_sign (signed a ha)
  where
    by_sign : Signed a → high_product (extended a) b ≡ high_of (to_signed a *ℤ pos b)
    by_sign (Positive la ea na sa) = ap (λ x. high_product x b) (extend_positive a na) ∙ high_pos (a * b) ∙ sym (ap (λ x. high_of (x *ℤ pos b)) ea)
    by_sign (Negative m h la ea na sa) =
        let wide = extend_negative a m h na in
        high_neg (extended a * b) b (suc m * b) (sym (add-mul (extended a) (suc m) b) ∙ ap (λ t. t * b) wide) (small (suc m) b la hb)
        ∙ sym (ap (λ x. high_of x) (neg_times m b)) ∙ sym (ap (λ x. high_of (x *ℤ pos b)) ea)

pub high_signed : (a b : ℕ) → a < 2 ^ 32 → b < 2 ^ 32 → high_product (extended a) (extended b) ≡ alu_of alu.Mulh a b
unfolding alu_of
high_signed a b ha hb = by_signs (signed a ha) (signed b hb)
  where
    product : ℕ → ℕ → ℕ
    product x y = high_product x y

    of_signs : (s t : ℤ) → to_signed a ≡ s → to_signed b ≡ t → high_of (to_signed a *ℤ to_signed b) ≡ high_of (s *ℤ t)
    of_signs s t e f = ap (λ x. high_of (x *ℤ to_signed b)) e ∙ ap (λ y. high_of (s *ℤ y)) f

    by_signs : Signed a → Signed b → high_product (extended a) (extended b) ≡ high_of (to_signed a *ℤ to_signed b)
    by_signs (Positive la ea na sa) (Positive lb eb nb sb) =
        ap (λ x. product x (extended b)) (extend_positive a na) ∙ ap (λ y. product a y) (extend_positive b nb) ∙ high_pos (a * b) ∙ sym (of_signs (pos a) (pos b) ea eb)
    by_signs (Positive la ea na sa) (Negative n kb lb eb nb sb) =
        ap (λ x. product x (extended b)) (extend_positive a na)
        ∙ high_neg (a * extended b) a (a * suc n) (one_negative a (extended b) (suc n) (extend_negative b n kb nb)) (small a (suc n) (omega (arith, la)) (omega (arith, lb)))
        ∙ ap (λ x. high_of x) (sym (times_neg a n)) ∙ sym (of_signs (pos a) (negsuc n) ea eb)
    by_signs (Negative m ka la ea na sa) (Positive lb eb nb sb) =
        ap (λ y. product (extended a) y) (extend_positive b nb)
        ∙ high_neg (extended a * b) b (suc m * b) (sym (add-mul (extended a) (suc m) b) ∙ ap (λ t. t * b) (extend_negative a m ka na)) (small (suc m) b (omega (arith, la)) hb)
        ∙ ap (λ x. high_of x) (sym (neg_times m b)) ∙ sym (of_signs (negsuc m) (pos b) ea eb)
    by_signs (Negative m ka la ea na sa) (Negative n kb lb eb nb sb) =
        ap (λ x. x / 2 ^ 32 % 2 ^ 32) (both_negative (extended a) (suc m) (extended b) (suc n) (extend_negative a m ka na) (extend_negative b n kb nb))
        ∙ high_pos (suc m * suc n) ∙ ap (λ x. high_of x) (sym (neg_times_neg m n)) ∙ sym (of_signs (negsuc m) (negsuc n) ea eb)

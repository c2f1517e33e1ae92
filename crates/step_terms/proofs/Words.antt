-- What operations on bit vectors of 32 bits come to, in the words of the instructions.
use Rattle.std.proofs.Common.{◌≡◌, ℕ, suc, ◌+◌, ◌-◌, ◌/◌, ◌%◌, ◌^◌, ◌<◌, ◌≤◌, Bool, true, false, cond, not, ◌&&◌, ◌||◌, refl, sym, ◌∙◌, ap, inl, inr, arith, nat_eq, nat_lt}
use Rattle.std.specs.Prelude.{nat_le, min, max, ℤ, pos, negsuc, ◌+ℤ◌, int_lt, unsigned_abs}
use Rattle.std.specs.Int.{int_div_euclid, int_rem_euclid}
use Rattle.std.proofs.lemmas.Nat.{mod_below, shr_le}
use Rattle.std.proofs.lemmas.Bool.{cases_lt}
use Rattle.std.proofs.lemmas.Int.{int_rem_euclid_is, ints}
use Rattle.rv32_decode.specs.declared.instr.AluOp.TheVariants as alu
use Rattle.bv_terms.specs.declared.node.BinOp.TheVariants as op
use Rattle.bv_terms.specs.BitVectors.{bit_of, bits, bin_value, is_signed_less, lshr_if, shl_if, sign_extend_value}
use Rattle.rv32_decode.specs.declared.instr.BranchOp.TheVariants as branch
use Rattle.rv32_decode.specs.declared.instr.AmoOp.TheVariants as atomic
use Rattle.rv32_decode.specs.declared.instr.LoadOp.TheVariants as load
use Rattle.rv_model.specs.Values.{alu_of, amo_of, extended, plus_offset, taken_of, to_signed, word_of}
use Rattle.rv_model.specs.Values as model
use Rattle.step_terms.proofs.Signs.{Signed, Positive, Negative, signed, lt_yes, lt_no, le_yes, le_no, same_lt, word_pos, word_negsuc}

pub difference : (a b : ℕ) → b < 2 ^ 32 → bin_value op.Sub (bits 32 a) (bits 32 b) ≡ alu_of alu.Sub a b
unfolding alu_of
difference a b below = ap (λ n. n % 2 ^ 32) (omega (arith, below))

pub sum : (a b : ℕ) → bin_value op.Add (bits 32 a) (bits 32 b) ≡ alu_of alu.Add a b
unfolding alu_of
sum a b = refl

pub exclusive : (a b : ℕ) → bin_value op.Xor (bits 32 a) (bits 32 b) ≡ alu_of alu.Xor a b
unfolding alu_of
exclusive a b = refl

pub either_bit : (a b : ℕ) → bin_value op.Or (bits 32 a) (bits 32 b) ≡ alu_of alu.Or a b
unfolding alu_of
either_bit a b = refl

pub both_bits : (a b : ℕ) → bin_value op.And (bits 32 a) (bits 32 b) ≡ alu_of alu.And a b
unfolding alu_of
both_bits a b = refl

pub product : (a b : ℕ) → bin_value op.Mul (bits 32 a) (bits 32 b) ≡ alu_of alu.Mul a b
unfolding alu_of
product a b = refl

pub quotient : (a b : ℕ) → bin_value op.Udiv (bits 32 a) (bits 32 b) ≡ alu_of alu.Divu a b
unfolding alu_of
quotient a b = refl

pub left_over : (a b : ℕ) → bin_value op.Urem (bits 32 a) (bits 32 b) ≡ alu_of alu.Remu a b
unfolding alu_of
left_over a b = refl

-- ---- comparisons

pub signed_less : (a b : ℕ) → a < 2 ^ 32 → b < 2 ^ 32 → is_signed_less (bits 32 a) (bits 32 b) ≡ int_lt (to_signed a) (to_signed b)
signed_less a b below_a below_b = by_signs (signed a below_a) (signed b below_b)
  where
    less : Bool → Bool → Bool
    less left right = (left && not right) || (not (right && not left) && nat_lt a b)

    by_signs : Signed a → Signed b → is_signed_less (bits 32 a) (bits 32 b) ≡ int_lt (to_signed a) (to_signed b)
    by_signs (Positive la ea na sa) (Positive lb eb nb sb) = ap (λ l. less l (nat_le (2 ^ 31) b)) na ∙ ap (λ r. less false r) nb ∙ sym (ap (λ x. int_lt x (to_signed b)) ea ∙ ap (λ y. int_lt (pos a) y) eb)
    by_signs (Positive la ea na sa) (Negative n hb lb eb nb sb) = ap (λ l. less l (nat_le (2 ^ 31) b)) na ∙ ap (λ r. less false r) nb ∙ sym (ap (λ x. int_lt x (to_signed b)) ea ∙ ap (λ y. int_lt (pos a) y) eb)
    by_signs (Negative m ha la ea na sa) (Positive lb eb nb sb) = ap (λ l. less l (nat_le (2 ^ 31) b)) na ∙ ap (λ r. less true r) nb ∙ sym (ap (λ x. int_lt x (to_signed b)) ea ∙ ap (λ y. int_lt (negsuc m) y) eb)
    by_signs (Negative m ha la ea na sa) (Negative n hb lb eb nb sb) = ap (λ l. less l (nat_le (2 ^ 31) b)) na ∙ ap (λ r. less true r) nb
        ∙ same_lt a b n m (λ h. omega (arith, h, ha, hb)) (λ h. omega (arith, h, ha, hb))
        ∙ sym (ap (λ x. int_lt x (to_signed b)) ea ∙ ap (λ y. int_lt (negsuc m) y) eb)

pub bit_same : (test : Bool) → bit_of test ≡ model.bit_of test
bit_same true = refl
bit_same false = refl

pub comparison : (a b : ℕ) → bin_value op.Ult (bits 32 a) (bits 32 b) ≡ alu_of alu.Sltu a b
unfolding alu_of
comparison a b = bit_same (nat_lt a b)

pub comparison_signed : (a b : ℕ) → a < 2 ^ 32 → b < 2 ^ 32 → bin_value op.Slt (bits 32 a) (bits 32 b) ≡ alu_of alu.Slt a b
unfolding alu_of
comparison_signed a b ha hb = ap bit_of (signed_less a b ha hb) ∙ bit_same (int_lt (to_signed a) (to_signed b))

-- ---- shifts

pub shift_left : (a b : ℕ) → bin_value op.Shl (bits 32 a) (bits 32 (b % 2 ^ 5)) ≡ alu_of alu.Sll a b
unfolding alu_of
shift_left a b = ap (λ t. shl_if t (bits 32 a) (b % 2 ^ 5)) (lt_yes (b % 2 ^ 5) 32 (mod_below b (2 ^ 5) (omega arith)))

right : (a by : ℕ) → by < 32 → lshr_if (nat_lt by 32) a by ≡ a / 2 ^ by
right a by h = ap (λ t. lshr_if t a by) (lt_yes by 32 h)

pub shift_right : (a b : ℕ) → bin_value op.Lshr (bits 32 a) (bits 32 (b % 2 ^ 5)) ≡ alu_of alu.Srl a b
unfolding alu_of
shift_right a b = right a (b % 2 ^ 5) (mod_below b (2 ^ 5) (omega arith))

less_by_shift : (a by m : ℕ) → a < m → a / 2 ^ by < m
less_by_shift a by m h = let le = shr_le a by in omega (arith, le, h)

pub shift_signed : (a b : ℕ) → a < 2 ^ 32 → bin_value op.Ashr (bits 32 a) (bits 32 (b % 2 ^ 5)) ≡ alu_of alu.Sra a b
unfolding alu_of
shift_signed a b below = by_sign (signed a below)
  where
    by : ℕ
    by = b % 2 ^ 5

    few : by < 32
    few = mod_below b (2 ^ 5) (omega arith)

    chosen : Bool → ℕ
    chosen negative = cond negative (2 ^ 32 - 1 - lshr_if (nat_lt by 32) (2 ^ 32 - 1 - a) by) (lshr_if (nat_lt by 32) a by)

    by_sign : Signed a → bin_value op.Ashr (bits 32 a) (bits 32 (b % 2 ^ 5)) ≡ word_of (int_div_euclid (to_signed a) (pos (2 ^ by)))
    by_sign (Positive la ea na sa) = ap chosen na ∙ right a by few ∙ sym (word_pos (a / 2 ^ by) (less_by_shift a by (2 ^ 32) below)) ∙ sym (ap (λ x. word_of (int_div_euclid x (pos (2 ^ by)))) ea)
    by_sign (Negative n ha la ea na sa) =
        let turned : 2 ^ 32 - 1 - a ≡ n = omega (arith, ha) in
        ap chosen na ∙ ap (λ x. 2 ^ 32 - 1 - x) (right (2 ^ 32 - 1 - a) by few) ∙ ap (λ x. 2 ^ 32 - 1 - x / 2 ^ by) turned
        ∙ sym (word_negsuc (n / 2 ^ by) (less_by_shift n by (2 ^ 32) (omega (arith, la)))) ∙ sym (ap (λ x. word_of (int_div_euclid x (pos (2 ^ by)))) ea)

-- ---- branches

pub equal : (a b : ℕ) → bin_value op.Eq (bits 32 a) (bits 32 b) ≡ bit_of (taken_of branch.Beq a b)
unfolding taken_of
equal a b = refl

turned : (test : Bool) → 1 - bit_of test ≡ bit_of (not test)
turned true = refl
turned false = refl

pub unequal : (a b : ℕ) → 1 - bin_value op.Eq (bits 32 a) (bits 32 b) ≡ bit_of (taken_of branch.Bne a b)
unfolding taken_of
unequal a b = turned (nat_eq a b)

pub less : (a b : ℕ) → bin_value op.Ult (bits 32 a) (bits 32 b) ≡ bit_of (taken_of branch.Bltu a b)
unfolding taken_of
less a b = refl

pub not_less : (a b : ℕ) → 1 - bin_value op.Ult (bits 32 a) (bits 32 b) ≡ bit_of (taken_of branch.Bgeu a b)
unfolding taken_of
not_less a b = turned (nat_lt a b)

pub less_signed : (a b : ℕ) → a < 2 ^ 32 → b < 2 ^ 32 → bin_value op.Slt (bits 32 a) (bits 32 b) ≡ bit_of (taken_of branch.Blt a b)
unfolding taken_of
less_signed a b ha hb = ap bit_of (signed_less a b ha hb)

pub not_less_signed : (a b : ℕ) → a < 2 ^ 32 → b < 2 ^ 32 → 1 - bin_value op.Slt (bits 32 a) (bits 32 b) ≡ bit_of (taken_of branch.Bge a b)
unfolding taken_of
not_less_signed a b ha hb = ap (λ t. 1 - bit_of t) (signed_less a b ha hb) ∙ turned (int_lt (to_signed a) (to_signed b))

-- ---- atomic operations

pub swapped : (a b : ℕ) → b ≡ amo_of atomic.Swap a b
unfolding amo_of
swapped a b = refl

pub atomic_sum : (a b : ℕ) → bin_value op.Add (bits 32 a) (bits 32 b) ≡ amo_of atomic.Add a b
unfolding amo_of
atomic_sum a b = refl

pub atomic_exclusive : (a b : ℕ) → bin_value op.Xor (bits 32 a) (bits 32 b) ≡ amo_of atomic.Xor a b
unfolding amo_of
atomic_exclusive a b = refl

pub atomic_both : (a b : ℕ) → bin_value op.And (bits 32 a) (bits 32 b) ≡ amo_of atomic.And a b
unfolding amo_of
atomic_both a b = refl

pub atomic_either : (a b : ℕ) → bin_value op.Or (bits 32 a) (bits 32 b) ≡ amo_of atomic.Or a b
unfolding amo_of
atomic_either a b = refl

pub by_bit : (test : Bool) (first second : ℕ) → cond (nat_eq (bit_of test) 1) first second ≡ cond test first second
by_bit true first second = refl
by_bit false first second = refl

pub signed_min : (a b : ℕ) → a < 2 ^ 32 → b < 2 ^ 32 → cond (nat_eq (bin_value op.Slt (bits 32 a) (bits 32 b)) 1) a b ≡ amo_of atomic.Min a b
unfolding amo_of
signed_min a b ha hb = by_bit (is_signed_less (bits 32 a) (bits 32 b)) a b ∙ ap (λ t. cond t a b) (signed_less a b ha hb)

pub signed_max : (a b : ℕ) → a < 2 ^ 32 → b < 2 ^ 32 → cond (nat_eq (bin_value op.Slt (bits 32 a) (bits 32 b)) 1) b a ≡ amo_of atomic.Max a b
unfolding amo_of
signed_max a b ha hb = by_bit (is_signed_less (bits 32 a) (bits 32 b)) b a ∙ ap (λ t. cond t b a) (signed_less a b ha hb)

pub least : (a b : ℕ) → cond (nat_eq (bin_value op.Ult (bits 32 a) (bits 32 b)) 1) a b ≡ amo_of atomic.Minu a b
unfolding amo_of
least a b = by_bit (nat_lt a b) a b ∙ chosen
  where
    chosen : cond (nat_lt a b) a b ≡ min a b
    chosen = elim (cases_lt a b) [
      | inl h ↦ ap (λ t. cond t a b) (lt_yes a b h) ∙ omega (arith, h)
      | inr h ↦ ap (λ t. cond t a b) (lt_no a b h) ∙ omega (arith, h)
    ]

pub greatest : (a b : ℕ) → cond (nat_eq (bin_value op.Ult (bits 32 a) (bits 32 b)) 1) b a ≡ amo_of atomic.Maxu a b
unfolding amo_of
greatest a b = by_bit (nat_lt a b) b a ∙ chosen
  where
    chosen : cond (nat_lt a b) b a ≡ max a b
    chosen = elim (cases_lt a b) [
      | inl h ↦ ap (λ t. cond t b a) (lt_yes a b h) ∙ omega (arith, h)
      | inr h ↦ ap (λ t. cond t b a) (lt_no a b h) ∙ omega (arith, h)
    ]

-- ---- numbers of bytes

pub byte_sign : (v : ℕ) → sign_extend_value (bits 8 v) 32 ≡ extended load.Lb v
unfolding extended
byte_sign v = elim (cases_lt v (2 ^ 7)) [
  | inl h ↦ ap (λ t. cond t (v + (2 ^ 32 - 2 ^ 8)) v) (le_no (2 ^ 7) v h) ∙ sym (ap (λ t. cond t v (v + 2 ^ 32 - 2 ^ 8)) (lt_yes v (2 ^ 7) h))
  | inr h ↦
      let sum : v + (2 ^ 32 - 2 ^ 8) ≡ v + 2 ^ 32 - 2 ^ 8 = omega arith in
      ap (λ t. cond t (v + (2 ^ 32 - 2 ^ 8)) v) (le_yes (2 ^ 7) v h) ∙ sum ∙ sym (ap (λ t. cond t v (v + 2 ^ 32 - 2 ^ 8)) (lt_no v (2 ^ 7) h))
]

pub half_sign : (v : ℕ) → sign_extend_value (bits 16 v) 32 ≡ extended load.Lh v
unfolding extended
half_sign v = elim (cases_lt v (2 ^ 15)) [
  | inl h ↦ ap (λ t. cond t (v + (2 ^ 32 - 2 ^ 16)) v) (le_no (2 ^ 15) v h) ∙ sym (ap (λ t. cond t v (v + 2 ^ 32 - 2 ^ 16)) (lt_yes v (2 ^ 15) h))
  | inr h ↦
      let sum : v + (2 ^ 32 - 2 ^ 16) ≡ v + 2 ^ 32 - 2 ^ 16 = omega arith in
      ap (λ t. cond t (v + (2 ^ 32 - 2 ^ 16)) v) (le_yes (2 ^ 15) v h) ∙ sum ∙ sym (ap (λ t. cond t v (v + 2 ^ 32 - 2 ^ 16)) (lt_no v (2 ^ 15) h))
]

pub whole_word : (v : ℕ) → v ≡ extended load.Lw v
unfolding extended
whole_word v = refl

pub zero_byte : (v : ℕ) → v ≡ extended load.Lbu v
unfolding extended
zero_byte v = refl

pub zero_half : (v : ℕ) → v ≡ extended load.Lhu v
unfolding extended
zero_half v = refl

-- ---- offsets

-- a word and the word of an offset
pub offset_sum : (a : ℕ) (z : ℤ) → unsigned_abs z ≤ 2 ^ 31 → (a + word_of z) % 2 ^ 32 ≡ plus_offset a z
unfolding plus_offset
offset_sum a (pos n) h = omega (arith, h)
offset_sum a (negsuc n) h =
    let same : int_rem_euclid (pos a +ℤ negsuc n) (pos (2 ^ 32)) ≡ pos ((a + (2 ^ 32 - suc n)) % 2 ^ 32) =
    int_rem_euclid_is (pos a +ℤ negsuc n) (pos (2 ^ 32)) (2 ^ 32) 1 (a + (2 ^ 32 - suc n)) (omega arith) refl (omega (arith, ints, h)) in
    ap (λ v. (a + v) % 2 ^ 32) (word_negsuc n (omega (arith, h))) ∙ ap (λ v. (a + v) % 2 ^ 32) (omega (arith, h)) ∙ sym (ap (λ x. unsigned_abs x) same)

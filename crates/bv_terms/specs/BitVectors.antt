-- Bit vectors and their operations, by the formulas of SMT-LIB's theory FixedSizeBitVectors and of its logic QF_BV.
use Rattle.std.specs.Prelude.{ℕ, ◌+◌, ◌-◌, ◌*◌, ◌/◌, ◌%◌, ◌^◌, Bool, true, false, not, ◌&&◌, ◌||◌, nat_eq, nat_lt, nat_le, bit_and, bit_or, bit_xor, List, slice_index, if◌then◌else◌}
use Rattle.bv_terms.specs.declared.node.BinOp.{BinOp}
use Rattle.bv_terms.specs.declared.node.BinOp.TheVariants as op

-- a bit vector: its width, and its value, the number below 2 ^ width whose binary digits are the bits
pub record BitVector : Type 0 where
  pub width : ℕ
  pub value : ℕ

-- the bit vector of this width and value
abbrev pub bits : (width value : ℕ) → BitVector
bits width value = record { width = width; value = value }

-- a truth value as one bit
abbrev pub bit_of : Bool → ℕ
bit_of true = 1
bit_of false = 0

-- the highest bit is set
abbrev pub is_negative : BitVector → Bool
is_negative a = nat_le (2 ^ (a.width - 1)) a.value

-- bvnot: each bit turned round
abbrev pub not_value : BitVector → ℕ
not_value a = 2 ^ a.width - 1 - a.value

-- bvneg: from 2 ^ width
abbrev pub neg_value : BitVector → ℕ
neg_value a = (2 ^ a.width - a.value) % 2 ^ a.width

-- bvudiv: the quotient, all ones for a zero divisor
abbrev pub udiv_value : BitVector → BitVector → ℕ
udiv_value a b = if nat_eq b.value 0 then 2 ^ a.width - 1 else a.value / b.value

-- bvurem: the remainder, the dividend for a zero divisor
abbrev pub urem_value : BitVector → BitVector → ℕ
urem_value a b = if nat_eq b.value 0 then a.value else a.value % b.value

-- a shift to the left by `by` places, if that is below the width
abbrev pub shl_if : Bool → BitVector → ℕ → ℕ
shl_if true a by = a.value * 2 ^ by % 2 ^ a.width
shl_if false a by = 0

-- bvshl
abbrev pub shl_value : BitVector → BitVector → ℕ
shl_value a b = shl_if (nat_lt b.value a.width) a b.value

-- a shift to the right by `by` places, if that is below the width
abbrev pub lshr_if : Bool → ℕ → ℕ → ℕ
lshr_if true a by = a / 2 ^ by
lshr_if false a by = 0

-- bvlshr: zeros come in from the left
abbrev pub lshr_value : BitVector → BitVector → ℕ
lshr_value a b = lshr_if (nat_lt b.value a.width) a.value b.value

-- bvashr: copies of the highest bit come in from the left; for a set one, the shift of the bits turned round
abbrev pub ashr_value : BitVector → BitVector → ℕ
ashr_value a b = if is_negative a
    then 2 ^ a.width - 1 - lshr_if (nat_lt b.value a.width) (not_value a) b.value
    else lshr_value a b

-- bvslt: the order of the numbers in two's complement
abbrev pub is_signed_less : BitVector → BitVector → Bool
is_signed_less a b = (is_negative a && not (is_negative b)) || (not (is_negative b && not (is_negative a)) && nat_lt a.value b.value)

-- the value of an operation on two bit vectors
abbrev pub bin_value : BinOp → BitVector → BitVector → ℕ
bin_value op.And a b = bit_and a.value b.value
bin_value op.Or a b = bit_or a.value b.value
bin_value op.Xor a b = bit_xor a.value b.value
bin_value op.Add a b = (a.value + b.value) % 2 ^ a.width
bin_value op.Sub a b = (a.value + (2 ^ a.width - b.value)) % 2 ^ a.width
bin_value op.Mul a b = a.value * b.value % 2 ^ a.width
bin_value op.Udiv a b = udiv_value a b
bin_value op.Urem a b = urem_value a b
bin_value op.Shl a b = shl_value a b
bin_value op.Lshr a b = lshr_value a b
bin_value op.Ashr a b = ashr_value a b
bin_value op.Eq a b = bit_of (nat_eq a.value b.value)
bin_value op.Ult a b = bit_of (nat_lt a.value b.value)
bin_value op.Slt a b = bit_of (is_signed_less a b)
bin_value op.Concat a b = a.value * 2 ^ b.width + b.value

-- the width of an operation on terms of these two widths
abbrev pub bin_width : BinOp → ℕ → ℕ → ℕ
bin_width op.Eq a b = 1
bin_width op.Ult a b = 1
bin_width op.Slt a b = 1
bin_width op.Concat a b = a + b
bin_width other a b = a

-- the bits from `low` up to `high`, both included
abbrev pub extract_value : BitVector → ℕ → ℕ → ℕ
extract_value a high low = a.value / 2 ^ low % 2 ^ (high + 1 - low)

-- the value with copies of the highest bit in front, up to a width
abbrev pub sign_extend_value : BitVector → ℕ → ℕ
sign_extend_value a width = if is_negative a then a.value + (2 ^ width - 2 ^ a.width) else a.value

-- the entry of a table of bytes at an index that counts from `first`, 0 outside the table
abbrev pub byte_value : ℕ → List ℕ → ℕ → ℕ
byte_value first bytes index = if nat_lt index first then 0 else slice_index bytes (index - first) % 2 ^ 8

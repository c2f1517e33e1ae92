-- Which nodes may stand on the terms of a pool.
use Rattle.std.specs.Prelude.{◌≡◌, ℕ, ◌+◌, ◌^◌, ◌<◌, ◌≤◌}
use Rattle.bv_terms.specs.declared.node.BinOp.{BinOp}
use Rattle.bv_terms.specs.declared.node.BinOp.TheVariants as op
use Rattle.bv_terms.specs.Shapes.{Shape, Const, Var, Not, Neg, Bin, Extract, ZeroExtend, SignExtend, Ite, ByteSelect}

-- terms have 1 to 64 bits
abbrev pub IsWidth : ℕ → Type 0
IsWidth width = (1 ≤ width) × (width ≤ 64)

-- operands have one width; of a Concat the widths together are a width
abbrev pub AreOperands : BinOp → ℕ → ℕ → Type 0
AreOperands op.Concat left right = left + right ≤ 64
AreOperands other left right = left ≡ right

-- the node's children are among the first `count` terms and have fitting widths, and so has the node
abbrev pub IsFitting : (ℕ → ℕ) → ℕ → Shape → Type 0
IsFitting width_of count (Const width value) = IsWidth width × (value < 2 ^ width)
IsFitting width_of count (Var width number) = IsWidth width
IsFitting width_of count (Not of) = of < count
IsFitting width_of count (Neg of) = of < count
IsFitting width_of count (Bin op left right) = (left < count) × (right < count) × AreOperands op (width_of left) (width_of right)
IsFitting width_of count (Extract of high low) = (of < count) × (low ≤ high) × (high < width_of of)
IsFitting width_of count (ZeroExtend of width) = (of < count) × (width_of of ≤ width) × (width ≤ 64)
IsFitting width_of count (SignExtend of width) = (of < count) × (width_of of ≤ width) × (width ≤ 64)
IsFitting width_of count (Ite test first second) = (test < count) × (first < count) × (second < count) × (width_of test ≡ 1) × (width_of first ≡ width_of second)
IsFitting width_of count (ByteSelect first bytes index) = index < count

-- a value of so many bits
pub record IsBits (width value : ℕ) : Type 0 where
  pub within : IsWidth width
  pub below : value < 2 ^ width

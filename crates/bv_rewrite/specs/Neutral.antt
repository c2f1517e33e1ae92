-- What operations on two bit vectors of one width do with certain operands.
use Rattle.std.specs.Prelude.{◌≡◌, ◌<◌, ◌^◌, ℕ}
use Rattle.bv_terms.specs.declared.node.BinOp.{BinOp}
use Rattle.bv_terms.specs.BitVectors.{bin_value, bin_width, bits}

-- with this number on the right, the value is the left one
pub record IsNeutralRight (op : BinOp) (width number : ℕ) : Type 0 where
  pub keeps_width : bin_width op width width ≡ width
  pub value : (left : ℕ) → left < 2 ^ width → bin_value op (bits width left) (bits width number) ≡ left

-- with this number on the left, the value is the right one
pub record IsNeutralLeft (op : BinOp) (width number : ℕ) : Type 0 where
  pub keeps_width : bin_width op width width ≡ width
  pub value : (right : ℕ) → right < 2 ^ width → bin_value op (bits width number) (bits width right) ≡ right

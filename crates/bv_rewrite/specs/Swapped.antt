-- What a right swap says of an operation on two terms of a pool.
use Rattle.std.specs.Prelude.{◌≡◌, ℕ, ⊤, List}
use Rattle.bv_terms.specs.BitVectors.{bin_value, bin_width}
use Rattle.bv_terms.specs.declared.node.BinOp.{BinOp}
use Rattle.bv_terms.specs.Shapes.{Shape}
use Rattle.bv_terms.specs.Values.{Assignment, term_at, value_at, width_at}
use Rattle.bv_rewrite.specs.declared.view.Swap.{Swap}
use Rattle.bv_rewrite.specs.declared.view.Swap.TheVariants as swap
use Rattle.bv_rewrite.specs.Right.{swap_value}

-- a child that is chosen has the width of the operation
abbrev pub ChildFits : List Shape → BinOp → ℕ → ℕ → Swap → Type 0
ChildFits nodes op left right swap.Left = bin_width op (width_at nodes left) (width_at nodes right) ≡ width_at nodes left
ChildFits nodes op left right swap.Right = bin_width op (width_at nodes left) (width_at nodes right) ≡ width_at nodes right
ChildFits nodes op left right (swap.Value value) = ⊤

-- the operation on these two terms has the width and the values of the swap
pub record HoldsOf (nodes : List Shape) (op : BinOp) (left right : ℕ) (swap : Swap) : Type 0 where
  pub width : ChildFits nodes op left right swap
  pub value : (w : Assignment) → bin_value op (term_at w nodes left) (term_at w nodes right) ≡ swap_value swap (value_at w nodes left) (value_at w nodes right)

-- Which answers of a rule are right.
use Rattle.std.specs.Prelude.{◌≡◌, ℕ, Bool, true, false}
use Rattle.bv_terms.specs.BitVectors.{bin_value, bin_width, bits}
use Rattle.bv_rewrite.specs.declared.view.Swap.{Swap}
use Rattle.bv_rewrite.specs.declared.view.Swap.TheVariants as swap
use Rattle.bv_rewrite.specs.declared.view.View.{View}
use Rattle.bv_rewrite.specs.Views.{Agrees}

-- the value that stands in the node's place, where the children have these values
abbrev pub swap_value : Swap → ℕ → ℕ → ℕ
swap_value swap.Left left right = left
swap_value swap.Right left right = right
swap_value (swap.Value value) left right = value

-- the swap puts a child in the node's place
abbrev pub takes_child : Swap → Bool
takes_child (swap.Value value) = false
takes_child child = true

-- the swap may stand in the place of every node with this view; a child only in that of a node of its own width
pub record IsRight (view : View) (swap : Swap) : Type 0 where
  pub width : takes_child swap ≡ true → bin_width view.op view.width view.width ≡ view.width
  pub value : (left right : ℕ) → Agrees view left right → bin_value view.op (bits view.width left) (bits view.width right) ≡ swap_value swap left right

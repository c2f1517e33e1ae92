-- What a view says of the children of a node.
use Rattle.std.specs.Prelude.{◌≡◌, ◌<◌, ◌^◌, ℕ, true, nat_eq, List, IfSome}
use Rattle.bv_terms.specs.declared.node.BinOp.{BinOp}
use Rattle.bv_terms.specs.Shapes.{Shape}
use Rattle.bv_terms.specs.Values.{width_at}
use Rattle.bv_rewrite.specs.declared.view.View.{View}
use Rattle.bv_terms.specs.Constants.{constant_at}

-- the view of an operation on two terms of one width
abbrev pub view_of : List Shape → BinOp → ℕ → ℕ → View
view_of nodes op left right = record { op = op; width = width_at nodes left; same = nat_eq left right; left = constant_at nodes left; right = constant_at nodes right }

-- children with these values may have this view
pub record Agrees (view : View) (left right : ℕ) : Type 0 where
  pub left_below : left < 2 ^ view.width
  pub right_below : right < 2 ^ view.width
  pub one_term : view.same ≡ true → left ≡ right
  pub left_constant : IfSome view.left (λ value. left ≡ value)
  pub right_constant : IfSome view.right (λ value. right ≡ value)

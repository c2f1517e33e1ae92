-- Nodes in whose place a constant stands.
use Rattle.std.specs.Prelude.{◌≡◌, ℕ, Bool, true, false, ◌&&◌, not, nat_eq, List, length}
use Rattle.std.specs.List.{list_all}
use Rattle.bv_terms.specs.Constants.{is_constant_at}
use Rattle.bv_terms.specs.Fitting.{IsBits}
use Rattle.bv_terms.specs.Shapes.{Shape, Const, children}
use Rattle.bv_terms.specs.Values.{Assignment, node_value, node_width, term_at, width_at}

-- the node has a child, and all its children are constants
abbrev pub is_folded : List Shape → Shape → Bool
is_folded nodes node = not (nat_eq (length (children node)) 0) && list_all (is_constant_at nodes) (children node)

-- the node that a pool with these nodes keeps for one: a constant of its value if it is folded, and else itself
pub data FoldsTo (nodes : List Shape) (node : Shape) : Shape → Type 0 where
  Itself : is_folded nodes node ≡ false → FoldsTo nodes node node
  Constant : (width value : ℕ) → is_folded nodes node ≡ true → width ≡ node_width (width_at nodes) node → IsBits width value
      → ((w : Assignment) → node_value w (term_at w nodes) node ≡ value) → FoldsTo nodes node (Const width value)

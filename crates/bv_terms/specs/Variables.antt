-- Which variables occur in a term.
use Rattle.std.specs.Prelude.{◌≡◌, ◌<◌, ℕ, List, Some, length, slice_get, Contains, ◌⊎◌}
use Rattle.bv_terms.specs.Shapes.{Shape, Var, children}
use Rattle.bv_terms.specs.Values.{Assignment, node_value, node_width, term_at, value_at, width_at}

-- the variable of this width and number occurs in a term: it is the term's node, or occurs in a child
pub data Occurs (nodes : List Shape) (width number : ℕ) : ℕ → Type 0 where
  Here : (id : ℕ) → slice_get nodes id ≡ Some (Var width number) → Occurs nodes width number id
  Inside : (id child : ℕ) (node : Shape) → slice_get nodes id ≡ Some node → Contains (children node) child → Occurs nodes width number child → Occurs nodes width number id

-- where a variable occurs in a node, it is the node or occurs in a child
abbrev pub OccursOnlyBy : List Shape → List Shape → ℕ → Shape → Type 0
OccursOnlyBy old new id node =
    (width number : ℕ) → Occurs new width number id → (node ≡ Var width number) ⊎ ((child : ℕ) × Contains (children node) child × Occurs old width number child)

-- the term `id` of the terms `new` has the width and the values of a node whose children stand among the terms `old`,
-- and no variable that the node hasn't
pub record IsTermOf (old new : List Shape) (node : Shape) (id : ℕ) : Type 0 where
  pub inside : id < length new
  pub width : width_at new id ≡ node_width (width_at old) node
  pub value : (w : Assignment) → value_at w new id ≡ node_value w (term_at w old) node
  pub occurs : OccursOnlyBy old new id node

-- no variable occurs in a term that was there but those that occurred in it
abbrev pub KeepsVariables : List Shape → List Shape → Type 0
KeepsVariables old new = (width number id : ℕ) → id < length old → Occurs new width number id → Occurs old width number id

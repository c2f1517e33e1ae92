-- What can stand in a node's place, whatever a book says.
use Rattle.std.specs.Prelude.{◌≡◌, ◌⊎◌, ◌<◌, ◌^◌, ℕ, Some, List, length, slice_get, Contains}
use Rattle.bv_terms.specs.Fitting.{IsFitting}
use Rattle.bv_terms.specs.Shapes.{Shape, Var, Extract, children, shape_of}
use Rattle.bv_terms.specs.Values.{Assignment, node_value, node_width, term_at, value_at, width_at}
use Rattle.bv_terms.specs.Variables.{IsTermOf, Occurs}
use Rattle.bv_rewrite.specs.declared.form.Form.{Form}
use Rattle.bv_rewrite.specs.declared.form.Form.TheVariants as form
use Rattle.bv_rewrite.specs.declared.part.Part.{Part}

-- the variable is the node or occurs in a child of it
abbrev pub OccursBy : List Shape → (width number : ℕ) → Shape → Type 0
OccursBy nodes width number node =
    (node ≡ Var width number) ⊎ ((child : ℕ) × Contains (children node) child × Occurs nodes width number child)

-- another node on the same terms that has the node's width and values, and no variable that the node hasn't
pub record StandsIn (nodes : List Shape) (node other : Shape) : Type 0 where
  pub fitting : IsFitting (width_at nodes) (length nodes) other
  pub width : node_width (width_at nodes) other ≡ node_width (width_at nodes) node
  pub value : (w : Assignment) → node_value w (term_at w nodes) other ≡ node_value w (term_at w nodes) node
  pub occurs : (width number : ℕ) → OccursBy nodes width number other → OccursBy nodes width number node

-- what is known of a term and its node
pub record Holds (nodes : List Shape) (id : ℕ) (node : Shape) : Type 0 where
  pub inside : id < length nodes
  pub found : slice_get nodes id ≡ Some node
  pub fitting : IsFitting (width_at nodes) id node
  pub width : width_at nodes id ≡ node_width (width_at nodes) node
  pub value : (w : Assignment) → value_at w nodes id ≡ node_value w (term_at w nodes) node

-- the width of a term, below 2 to the power of which its values are
pub record HasWidth (nodes : List Shape) (id width : ℕ) : Type 0 where
  pub is : width ≡ width_at nodes id
  pub below : (w : Assignment) → value_at w nodes id < 2 ^ width

-- the bits that a part is
abbrev pub part_shape : Part → Shape
part_shape part = Extract part.of.number part.high part.low

-- the form can stand in the place of the node
abbrev pub IsFormOf : List Shape → Shape → Form → Type 0
IsFormOf nodes node (form.Known id) = IsTermOf nodes nodes node id.number
IsFormOf nodes node (form.New other) = StandsIn nodes node (shape_of other)

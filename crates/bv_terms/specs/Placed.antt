-- What a pool keeps: nodes that stand on nodes before them, each with its width.
use Rattle.std.specs.Prelude.{◌≡◌, ℕ, List, Some, map, slice_get}
use Rattle.bv_terms.specs.declared.term.Term.{Term}
use Rattle.bv_terms.specs.Fitting.{IsFitting}
use Rattle.bv_terms.specs.Shapes.{Shape, shape_of}
use Rattle.bv_terms.specs.Values.{width_at}

abbrev pub shapes_of : List Term → List Shape
shapes_of terms = map (λ t. shape_of t.node) terms

-- each node fits the nodes before it
abbrev pub AreFitting : List Shape → Type 0
AreFitting nodes = (id : ℕ) (node : Shape) → slice_get nodes id ≡ Some node → IsFitting (width_at nodes) id node

pub record ArePlaced (terms : List Term) : Type 0 where
  pub fitting : AreFitting (shapes_of terms)
  pub widths : (id : ℕ) (term : Term) → slice_get terms id ≡ Some term → term.width ≡ width_at (shapes_of terms) id

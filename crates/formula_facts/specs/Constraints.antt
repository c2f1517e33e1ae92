-- The constraints of symbolic paths as facts.
use Rattle.std.specs.Prelude.{◌<◌, List, [], ◌∷◌, All, length}
use Rattle.bv_terms.specs.declared.node.TermId.{TermId}
use Rattle.encoder.specs.declared.encoder.Encoder.{Encoder}
use Rattle.formula_parts.specs.Order.{Setting}
use Rattle.formula_parts.specs.Facts.{Fact, Is}
use Rattle.formula_parts.specs.Parts.{Adds, StandsOn}

-- each of some terms is 1
abbrev pub facts_of : List TermId → List Fact
facts_of [] = []
facts_of (id ∷ more) = Is id.number ∷ facts_of more

-- What was added says that constraints are 1, in whatever setting has these among its terms.
abbrev pub AddsConstraints : (old new : Encoder) → List TermId → Type 0
AddsConstraints old new constraints =
    (setting : Setting) → StandsOn setting old → All (λ (id : TermId). id.number < length setting.nodes) constraints
    → Adds setting old new (facts_of constraints)

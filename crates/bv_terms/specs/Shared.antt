-- What a list of nodes gains where one is asked for.
use Rattle.std.specs.Prelude.{◌≡◌, ◌⊎◌, ℕ, List, [], ◌∷◌, ◌++◌, Some, slice_get}
use Rattle.bv_terms.specs.Shapes.{Shape}

-- where the list had the id's node, the id is the node's place there, and the list is as it was
abbrev pub IsShared : List Shape → List Shape → ℕ → Type 0
IsShared old new id = (node : Shape) (place : ℕ) → slice_get new id ≡ Some node → slice_get old place ≡ Some node → (id ≡ place) × (new ≡ old)

-- the list is as it was, or has the id's node behind the others
abbrev pub GainsAtMost : List Shape → List Shape → ℕ → Type 0
GainsAtMost old new id = (new ≡ old) ⊎ ((node : Shape) × (slice_get new id ≡ Some node) × (new ≡ old ++ node ∷ []))

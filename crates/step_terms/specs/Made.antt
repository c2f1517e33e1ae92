-- Terms that were made of other terms.
use Rattle.std.specs.Prelude.{◌≡◌, ◌<◌, ◌⊎◌, ℕ, List, [], ◌∷◌, length}
use Rattle.bv_terms.specs.Shapes.{Shape}
use Rattle.bv_terms.specs.Values.{Assignment, KeepsTerms, value_at, width_at}
use Rattle.bv_terms.specs.Variables.{KeepsVariables, Occurs}

-- a term of these nodes, of so many bits
pub record IsTerm (nodes : List Shape) (bits id : ℕ) : Type 0 where
  pub inside : id < length nodes
  pub width : width_at nodes id ≡ bits

-- the terms that were there keep their nodes, widths, values and variables
pub record Grows (old new : List Shape) : Type 0 where
  pub terms : KeepsTerms old new
  pub variables : KeepsVariables old new

-- the variable of this width and number occurs in one of these terms
abbrev pub OccursAmong : List Shape → (width number : ℕ) → List ℕ → Type 0
OccursAmong nodes width number [] = ⊥
OccursAmong nodes width number (part ∷ parts) = Occurs nodes width number part ⊎ OccursAmong nodes width number parts

-- The term `id` of the nodes `new` has the value that was to be made under every assignment, and no variable but those of its
-- parts, which are terms of the nodes `old`.
pub record IsMade (old new : List Shape) (parts : List ℕ) (bits : ℕ) (made : Assignment → ℕ) (id : ℕ) : Type 0 where
  pub term : IsTerm new bits id
  pub value : (w : Assignment) → value_at w new id ≡ made w
  pub occurs : (width number : ℕ) → Occurs new width number id → OccursAmong old width number parts

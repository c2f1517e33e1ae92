-- Literals of all bytes that accesses may write, as a part that says nothing.
use Rattle.std.specs.Prelude.{ℕ, List, [], ◌∷◌, ◌++◌, All}
use Rattle.bv_terms.specs.Shapes.{Shape}
use Rattle.encoder.specs.declared.encoder.Encoder.{Encoder}
use Rattle.encoder.specs.Encodes.{Encodes}
use Rattle.step_terms.specs.Bytes.{AreBytes, numbers}
use Rattle.thread_terms.specs.declared.access.Access.{Access}
use Rattle.formula_parts.specs.Order.{Setting}
use Rattle.formula_parts.specs.Parts.{Adds, StandsOn}

-- the terms of all bytes that accesses may write, one access after the other
abbrev pub written_terms : List Access → List ℕ
written_terms [] = []
written_terms (access ∷ more) = numbers access.writes ++ written_terms more

-- each byte that an access may write is a term of 8 bits
abbrev pub WriteBytes : List Shape → List Access → Type 0
WriteBytes nodes accesses = All (λ (access : Access). AreBytes nodes access.writes) accesses

-- Literals of these bytes say nothing, and the variables of accesses decide them.
abbrev pub WrittenBytesAreParts : Type 0
WrittenBytesAreParts = (setting : Setting) (old new : Encoder) → StandsOn setting old → Encodes old new (written_terms setting.accesses) → Adds setting old new []

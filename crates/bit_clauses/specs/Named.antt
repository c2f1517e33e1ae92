-- The variables that a map keeps by name.
use Rattle.std.specs.Prelude.{ℕ, List, map}
use Rattle.bit_clauses.specs.declared.variable_map.VariableName.{VariableName}
use Rattle.bit_clauses.specs.declared.variables.Variable.{Variable}

abbrev pub named : List (VariableName × ℕ) → List Variable
named entries = map (λ (e : VariableName × ℕ). record { width = e.0.width; number = e.0.number; first = e.1 }) entries

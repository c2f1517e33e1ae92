-- Variables are found by their names.
use Rattle.std.proofs.Common.{◌≡◌, ℕ, Bool, ◌&&◌, cond, nat_eq, List, [], ◌∷◌, ◌++◌, Some, refl, sym, ◌∙◌, ap, ap₂, arith}
use Rattle.std.specs.Prelude.{Option, None}
use Rattle.std.specs.Map.{lookup}
use Rattle.std.proofs.lemmas.List.{map_push}
use Rattle.std.proofs.lemmas.Bool.Decides.{nat_tests}
use Rattle.bit_clauses.specs.declared.variable_map.VariableName.{VariableName}
use Rattle.bit_clauses.specs.declared.variables.Variable.{Variable}
use Rattle.bit_clauses.specs.contracts.variable_map.VariableNamePartialEq.TheImpl.{ghosts}
use Rattle.bit_clauses.specs.Bits.{first_of}
use Rattle.bit_clauses.specs.Named.{named}

turned : (a b : ℕ) → nat_eq a b ≡ nat_eq b a
turned a b = grind (arith, nat_tests)

pub first_by_name : (es : List (VariableName × ℕ)) (name : VariableName) → first_of (named es) name.width name.number ≡ lookup (ghosts.eq name) es
first_by_name [] name = refl
first_by_name (e ∷ es) name =
    ap₂ (λ b (rest : Option ℕ). cond b (Some e.1) rest) (ap₂ (λ x y. x && y) (turned e.0.width name.width) (turned e.0.number name.number)) (first_by_name es name)

pub absent : (es : List (VariableName × ℕ)) (name : VariableName) → first_of (named es) name.width name.number ≡ None → lookup (ghosts.eq name) es ≡ None
absent es name none = sym (first_by_name es name) ∙ none

pub named-push : (es after : List (VariableName × ℕ)) (name : VariableName) (first : ℕ) → after ≡ es ++ (name, first) ∷ [] → named after ≡ named es ++ record { width = name.width; number = name.number; first = first } ∷ []
named-push es after name first e =
    ap named e ∙ map_push (λ (p : VariableName × ℕ). let v : Variable = record { width = p.0.width; number = p.0.number; first = p.1 } in v) es (name, first)

-- The clauses that fix an output.
use Rattle.std.specs.Prelude.{List, [], ◌∷◌}
use Rattle.clause_store.specs.declared.lit.Lit.{Lit}
use Rattle.clause_store.specs.Literals.{opposite}

abbrev pub and_clauses : Lit → Lit → Lit → List (List Lit)
and_clauses a b out = (a ∷ opposite out ∷ []) ∷ (b ∷ opposite out ∷ []) ∷ (opposite a ∷ opposite b ∷ out ∷ []) ∷ []

abbrev pub mux_clauses : Lit → Lit → Lit → Lit → List (List Lit)
mux_clauses when then_lit else_lit out =
    (opposite when ∷ opposite then_lit ∷ out ∷ [])
    ∷ (opposite when ∷ then_lit ∷ opposite out ∷ [])
    ∷ (when ∷ opposite else_lit ∷ out ∷ [])
    ∷ (when ∷ else_lit ∷ opposite out ∷ [])
    ∷ []

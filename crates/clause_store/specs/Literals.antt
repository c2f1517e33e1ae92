-- Literals and clauses where every variable has a truth value.
use Rattle.std.specs.Prelude.{◌≡◌, ℕ, Bool, true, not, if◌then◌else◌, List, All, Any}
use Rattle.clause_store.specs.declared.lit.Lit.{Lit}

-- the literal of the same variable that is true where this one is false
abbrev pub opposite : Lit → Lit
opposite l = record { var = l.var; positive = not l.positive }

-- A truth value for each variable.
abbrev pub Assignment : Type 0
Assignment = ℕ → Bool

abbrev pub literal_value : Assignment → Lit → Bool
literal_value w l = if l.positive then w l.var else not (w l.var)

-- some literal of the clause is true
abbrev pub IsTrueUnder : Assignment → List Lit → Type 0
IsTrueUnder w clause = Any (λ l. literal_value w l ≡ true) clause

-- every clause is true
abbrev pub Satisfies : Assignment → List (List Lit) → Type 0
Satisfies w clauses = All (IsTrueUnder w) clauses

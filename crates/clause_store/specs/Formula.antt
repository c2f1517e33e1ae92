-- Variables, numbered from 0, and clauses over them.
use Rattle.std.specs.Prelude.{◌≡◌, ◌≤◌, ℕ, ◌<◌, List, ◌++◌, All}
use Rattle.clause_store.specs.declared.lit.Lit.{Lit}
use Rattle.clause_store.specs.Literals.{Assignment, Satisfies}

pub record Formula : Type 0 where
  pub vars : ℕ
  pub clauses : List (List Lit)

-- each literal of the clause is of one of so many variables
abbrev pub IsKnown : ℕ → List Lit → Type 0
IsKnown vars clause = All (λ l. l.var < vars) clause

-- the clauses name no variable but those of the formula
abbrev pub AllKnown : Formula → Type 0
AllKnown f = All (IsKnown f.vars) f.clauses

-- older variables and older clauses stay, and further ones may follow them
pub record Grows (old new : Formula) : Type 0 where
  pub vars : old.vars ≤ new.vars
  pub more : List (List Lit)
  pub clauses : new.clauses ≡ old.clauses ++ more

-- an assignment that agrees with another on so many variables, and satisfies the clauses
pub record Extension (vars : ℕ) (w : Assignment) (clauses : List (List Lit)) : Type 0 where
  pub extended : Assignment
  pub agrees : (x : ℕ) → x < vars → extended x ≡ w x
  pub satisfies : Satisfies extended clauses

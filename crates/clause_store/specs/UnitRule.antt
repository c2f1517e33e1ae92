-- The unit rule, said by the truth values of some variables at which it has nothing to do.
use Rattle.std.specs.Prelude.{◌≡◌, ◌≢◌, ◌⊎◌, ℕ, Bool, true, false, not, Option, Some, None, List, ◌++◌, take, slice_get, All, Any, Contains}
use Rattle.clause_store.specs.declared.lit.Lit.{Lit}

-- Truth values of some variables; the others are open.
abbrev pub Partial : Type 0
Partial = ℕ → Option Bool

abbrev pub MakesTrue : Partial → Lit → Type 0
MakesTrue v l = v l.var ≡ Some l.positive

abbrev pub MakesFalse : Partial → Lit → Type 0
MakesFalse v l = v l.var ≡ Some (not l.positive)

abbrev pub LeavesOpen : Partial → Lit → Type 0
LeavesOpen v l = v l.var ≡ None

-- the literal is true, or is false, as this value says
abbrev pub IsGiven : Partial → Lit → Bool → Type 0
IsGiven v l true = MakesTrue v l
IsGiven v l false = MakesFalse v l

-- two literals of the clause that differ are open: a literal that stands twice counts once
pub record HasTwoOpen (v : Partial) (clause : List Lit) : Type 0 where
  pub one : Lit
  pub other : Lit
  pub one_listed : Contains clause one
  pub other_listed : Contains clause other
  pub differ : one ≢ other
  pub one_open : LeavesOpen v one
  pub other_open : LeavesOpen v other

-- the clause isn't false, and has no last open literal that the rule would make true
abbrev pub IsAtRest : Partial → List Lit → Type 0
IsAtRest v clause = Any (MakesTrue v) clause ⊎ HasTwoOpen v clause

-- the rule has nothing to do
abbrev pub AllAtRest : Partial → List (List Lit) → Type 0
AllAtRest v clauses = All (IsAtRest v) clauses

-- The line follows from the clauses: with its literals false, the rule has something to do until a clause is false.
abbrev pub Follows : List (List Lit) → List Lit → Type 0
Follows clauses line = (v : Partial) → All (MakesFalse v) line → AllAtRest v clauses → ⊥

-- each line follows from the clauses and the lines before it
abbrev pub Derived : List (List Lit) → List (List Lit) → Type 0
Derived clauses lines = (i : ℕ) (line : List Lit) → slice_get lines i ≡ Some line → Follows (clauses ++ take i lines) line

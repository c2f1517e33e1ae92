-- What a circuit of gates adds to a formula.
use Rattle.std.specs.Prelude.{◌<◌, ◌≤◌, ℕ, IsSome, List, All}
use Rattle.clause_store.specs.declared.lit.Lit.{Lit}
use Rattle.clause_store.specs.Literals.{Assignment, Satisfies}
use Rattle.clause_store.specs.Formula.{Formula, Grows, Extension}
use Rattle.clause_store.specs.UnitRule.{Partial, AllAtRest}

-- the literal has a value
abbrev pub Decides : Partial → Lit → Type 0
Decides v l = IsSome (v l.var)

abbrev pub DecidesAll : Partial → List Lit → Type 0
DecidesAll v lits = All (Decides v) lits

-- The new formula has further clauses, and in every assignment that satisfies them `Means` holds. Every assignment that
-- satisfies the old clauses extends to the new ones. Where the unit rule has nothing to do, and what is `Given` is
-- decided, so are the new variables and what the circuit `Gives`.
pub record IsCircuit (old new : Formula) (Given Gives : Partial → Type 0) (Means : Assignment → Type 0) : Type 0 where
  pub grows : Grows old new
  pub means : (w : Assignment) → Satisfies w new.clauses → Means w
  pub extends : (w : Assignment) → Satisfies w old.clauses → Extension old.vars w new.clauses
  pub gives : (v : Partial) → AllAtRest v new.clauses → Given v → Gives v
  pub decides : (v : Partial) → AllAtRest v new.clauses → Given v → (x : ℕ) → old.vars ≤ x → x < new.vars → IsSome (v x)

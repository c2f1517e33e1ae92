-- Literals that some variables decide by the unit rule.
use Rattle.std.specs.Prelude.{ℕ, IsSome, List, All, Contains}
use Rattle.clause_store.specs.declared.lit.Lit.{Lit}
use Rattle.clause_store.specs.UnitRule.{Partial, AllAtRest}
use Rattle.clause_store.specs.Formula.{Formula, Grows}

-- From any values of the variables the unit rule gives the literal a value, or makes a clause false: wherever the
-- rule has nothing to do and these variables have values, the literal has one.
abbrev pub IsRooted : List (List Lit) → List ℕ → Lit → Type 0
IsRooted clauses roots l = (v : Partial) → AllAtRest v clauses → All (λ x. IsSome (v x)) roots → IsSome (v l.var)

-- A literal of a root is rooted.
abbrev pub RootsAreRooted : Type 0
RootsAreRooted = (clauses : List (List Lit)) (roots : List ℕ) (l : Lit) → Contains roots l.var → IsRooted clauses roots l

-- Clauses that are added later keep a literal rooted.
abbrev pub RootedStays : Type 0
RootedStays = (old new : Formula) (roots : List ℕ) (l : Lit) → Grows old new → IsRooted old.clauses roots l → IsRooted new.clauses roots l

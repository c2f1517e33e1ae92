-- Clauses loaded one after the other.
use Rattle.std.specs.Prelude.{◌≡◌, Option, Some, None, List, [], ◌∷◌, ◌++◌, Contains}
use Rattle.clause_store.specs.declared.lit.Lit.{Lit}
use Rattle.sat_trail.specs.declared.watcher.Pair.{Pair}
use Rattle.sat_trail.specs.Watching.{Watched, IsPairOf}

-- the same variables, and these clauses
pub record IsHolding (old new : Watched) (clauses : List (List Lit)) : Type 0 where
  pub same_vars : new.vars ≡ old.vars
  pub holds : new.clauses ≡ clauses

-- the clause is added, or empty
abbrev pub IsAdded : Watched → List Lit → Option Watched → Type 0
IsAdded old clause None = clause ≡ []
IsAdded old clause (Some new) = IsHolding old new (old.clauses ++ clause ∷ [])

-- the clauses are added, or one of them is empty
abbrev pub IsAllAdded : Watched → List (List Lit) → Option Watched → Type 0
IsAllAdded old clauses None = Contains clauses []
IsAllAdded old clauses (Some new) = IsHolding old new (old.clauses ++ clauses)

abbrev pub IsChosen : List Lit → Option Pair → Type 0
IsChosen clause None = clause ≡ []
IsChosen clause (Some pair) = IsPairOf clause pair

-- another literal of the clause, or this one where it has no other
pub record IsSecond (clause : List Lit) (one two : Lit) : Type 0 where
  pub listed : Contains clause two
  pub alone : one ≡ two → (k : Lit) → Contains clause k → k ≡ one

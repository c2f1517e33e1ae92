-- The unit rule along the rows of the literals that became false.
use Rattle.std.specs.Prelude.{◌≡◌, ◌≢◌, ◌⊎◌, ◌≤◌, ◌<◌, ◌+◌, ℕ, Bool, true, false, Option, Some, None, List, ◌++◌, length, slice_get, All, Any, Contains}
use Rattle.clause_store.specs.declared.lit.Lit.{Lit}
use Rattle.clause_store.specs.Literals.{opposite}
use Rattle.clause_store.specs.UnitRule.{Partial, MakesTrue, MakesFalse, LeavesOpen}
use Rattle.sat_trail.specs.declared.step.Step.{Step}
use Rattle.sat_trail.specs.declared.watcher.Pair.{Pair}
use Rattle.sat_trail.specs.declared.watcher.Watcher.{Watcher}
use Rattle.sat_trail.specs.declared.propagate.Run.{Run}
use Rattle.sat_trail.specs.declared.visit.Visit.{Visit}
use Rattle.sat_trail.specs.declared.visit.Visit.TheVariants.{Keep, Block, Move, Clash, Push}
use Rattle.sat_trail.specs.Paths.{Path, IsPath, IsWalk, value_in}
use Rattle.sat_trail.specs.Watching.{Watched, IsOneOf, IsBoth, ListsFrom, IsWatching, CanBlock, CanMove, row_in}

-- the pair's other literal, if this is one of it
abbrev pub IsOther : Pair → Lit → Option Lit → Type 0
IsOther pair from None = IsOneOf pair from → ⊥
IsOther pair from (Some stay) = IsBoth pair from stay

-- whether a clause could watch the literal beside the one that stays
abbrev pub MayWatch : Partial → Lit → Lit → Bool → Type 0
MayWatch v l stay true = (l ≢ stay) × (MakesFalse v l → ⊥)
MayWatch v l stay false = (l ≡ stay) ⊎ MakesFalse v l

-- a literal of the clause that could be watched beside the one that stays; if there is none, all others are false
abbrev pub IsFound : Partial → List Lit → Lit → Option Lit → Type 0
IsFound v clause stay (Some to) = Contains clause to × (to ≢ stay) × (MakesFalse v to → ⊥)
IsFound v clause stay None = (k : Lit) → Contains clause k → k ≢ stay → MakesFalse v k

-- the clause at a place of the row is true, or doesn't watch the row's literal
pub record CanKeep (w : Watched) (v : Partial) (from : Lit) (gap : ℕ) : Type 0 where
  pub watcher : Watcher
  pub found : slice_get (row_in w.rows from) gap ≡ Some watcher
  pub holds : (clause : List Lit) (pair : Pair) → slice_get w.clauses watcher.clause ≡ Some clause → slice_get w.pairs watcher.clause ≡ Some pair → IsOneOf pair from → Any (MakesTrue v) clause

-- the clause of this number is false
pub record IsFalseClause (clauses : List (List Lit)) (v : Partial) (c : ℕ) : Type 0 where
  pub clause : List Lit
  pub found : slice_get clauses c ≡ Some clause
  pub is_false : All (MakesFalse v) clause

-- the clause at a place of the row has this last open literal, its others being false
pub record CanPush (w : Watched) (v : Partial) (from : Lit) (gap c : ℕ) (l : Lit) : Type 0 where
  pub watcher : Watcher
  pub found : slice_get (row_in w.rows from) gap ≡ Some watcher
  pub named : watcher.clause ≡ c
  pub clause : List Lit
  pub numbered : slice_get w.clauses c ≡ Some clause
  pub listed : Contains clause l
  pub known : l.var < w.vars
  pub still_open : LeavesOpen v l
  pub others : (k : Lit) → Contains clause k → k ≢ l → MakesFalse v k

-- what a look at the watcher at a place of the row gives
abbrev pub IsVisit : Watched → Partial → Lit → ℕ → Visit → Type 0
IsVisit w v from gap Keep = CanKeep w v from gap
IsVisit w v from gap (Block c l) = CanKeep w v from gap × CanBlock w from gap c l
IsVisit w v from gap (Move c stay to) = CanMove w from gap c stay to × (MakesFalse v to → ⊥)
IsVisit w v from gap (Clash c) = IsFalseClause w.clauses v c
IsVisit w v from gap (Push c l) = CanPush w v from gap c l

-- older steps stay, and each later one was forced
pub record IsGrown (old new : List Step) : Type 0 where
  pub more : List Step
  pub grown : new ≡ old ++ more
  pub forced : (p : ℕ) (s : Step) → slice_get new p ≡ Some s → s.reason ≡ None → slice_get old p ≡ Some s

-- steps with their reasons, and clauses that watch: the rows of the first steps are done
pub record IsEngine (t : Path) (w : Watched) (next : ℕ) : Type 0 where
  pub vars : t.vars ≡ w.vars
  pub path : IsPath t
  pub within : next ≤ length t.steps
  pub walk : IsWalk w.clauses t.steps
  pub watching : IsWatching w.clauses w.pairs t.steps next

-- the same clauses, and more steps
pub record IsStepped (t0 : Path) (w0 : Watched) (t : Path) (w : Watched) (next : ℕ) : Type 0 where
  pub engine : IsEngine t w next
  pub same_vars : t.vars ≡ t0.vars
  pub same_clauses : w.clauses ≡ w0.clauses
  pub grown : IsGrown t0.steps t.steps

-- in the row of a step: a clause that watches its literal's opposite is true, or listed from a place on
pub record IsHalf (t0 : Path) (w0 : Watched) (t : Path) (w : Watched) (at : ℕ) (from : Lit) (place : ℕ) : Type 0 where
  pub stepped : IsStepped t0 w0 t w at
  pub step : Step
  pub there : slice_get t.steps at ≡ Some step
  pub turned : from ≡ opposite step.lit
  pub seen : (c : ℕ) (clause : List Lit) (pair : Pair) → slice_get w.clauses c ≡ Some clause → slice_get w.pairs c ≡ Some pair → IsOneOf pair from
      → Any (MakesTrue (value_in t.steps)) clause ⊎ ListsFrom place (row_in w.rows from) c

-- the row is done, or a clause is false
abbrev pub IsVisited : Path → Watched → Path → Watched → ℕ → Option ℕ → Type 0
IsVisited t0 w0 t w at None = IsStepped t0 w0 t w (at + 1)
IsVisited t0 w0 t w at (Some c) = IsStepped t0 w0 t w at × IsFalseClause w.clauses (value_in t.steps) c

-- no row is left, or a clause is false
abbrev pub IsEnd : Path → Watched → ℕ → Option ℕ → Type 0
IsEnd t w next None = next ≡ length t.steps
IsEnd t w next (Some c) = IsFalseClause w.clauses (value_in t.steps) c

-- all rows are done, or a clause is false
pub record IsRun (t0 : Path) (w0 : Watched) (t : Path) (w : Watched) (run : Run) : Type 0 where
  pub stepped : IsStepped t0 w0 t w run.next
  pub ends : IsEnd t w run.next run.clash

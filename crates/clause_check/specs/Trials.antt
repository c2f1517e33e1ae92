-- A line's literals made false, one after the other.
use Rattle.std.specs.Prelude.{◌≡◌, ◌⊎◌, ◌↔◌, ◌≤◌, ◌<◌, ℕ, Bool, true, false, Some, None, IsTrue, List, ◌++◌, length, slice_get, Contains}
use Rattle.clause_store.specs.declared.lit.Lit.{Lit}
use Rattle.clause_store.specs.Literals.{opposite}
use Rattle.clause_store.specs.UnitRule.{MakesTrue, MakesFalse, Follows}
use Rattle.sat_trail.specs.declared.step.Step.{Step}
use Rattle.sat_trail.specs.Paths.{IsDecision, value_in}
use Rattle.sat_trail.specs.Visits.{IsFalseClause}
use Rattle.sat_trail.specs.Engines.{State, IsSettled, with_front}

-- the literal is false where the rule has nothing to do; or it is true, or a clause is false
abbrev pub IsOutcome : State → Lit → Bool → Type 0
IsOutcome s l false = IsSettled s None × MakesFalse (value_in s.steps) l
IsOutcome s l true = MakesTrue (value_in s.steps) l ⊎ ((c : ℕ) × IsFalseClause s.clauses (value_in s.steps) c)

-- further steps, of which the first may be assumed
pub record IsAbove (old new : State) : Type 0 where
  pub same_vars : new.vars ≡ old.vars
  pub same_clauses : new.clauses ≡ old.clauses
  pub more : List Step
  pub grown : new.steps ≡ old.steps ++ more
  pub assumed : (new ≡ old) ⊎ IsDecision new.steps (length old.steps)

-- one literal was assumed to be false, if it was open
pub record IsAssumed (old : State) (l : Lit) (new : State) (closed : Bool) : Type 0 where
  pub above : IsAbove old new
  pub decisions : (p : ℕ) (s : Step) → slice_get new.steps p ≡ Some s → s.reason ≡ None → (slice_get old.steps p ≡ Some s) ⊎ (s.lit ≡ opposite l)
  pub outcome : IsOutcome new l closed

-- opposites of the line's literals alone were assumed
abbrev pub AssumesLine : List Step → List Lit → Type 0
AssumesLine steps line = (p : ℕ) (s : Step) → slice_get steps p ≡ Some s → s.reason ≡ None → Contains line (opposite s.lit)

-- the first literals of the line are false
pub record IsAssuming (old : State) (line : List Lit) (count : ℕ) (new : State) : Type 0 where
  pub above : IsAbove old new
  pub assumes : AssumesLine new.steps line
  pub settled : IsSettled new None
  pub falsified : (i : ℕ) (k : Lit) → i < count → slice_get line i ≡ Some k → MakesFalse (value_in new.steps) k

-- the line was tried
pub record IsTried (old : State) (line : List Lit) (new : State) (closed : Bool) : Type 0 where
  pub above : IsAbove old new
  pub exact : IsTrue closed ↔ Follows old.clauses line

-- the first steps, where there are more
pub record IsTakenBack (old : State) (to : ℕ) (new : State) : Type 0 where
  pub longer : to < length old.steps → new ≡ with_front old to
  pub kept : length old.steps ≤ to → new ≡ old

-- The unit rule over clauses that may grow and steps that may be taken back.
use Rattle.std.specs.Prelude.{◌≡◌, ◌≢◌, ◌<◌, ◌+◌, ℕ, Bool, true, false, Option, Some, None, List, [], ◌∷◌, ◌++◌, length, take, slice_get, Any, Contains}
use Rattle.clause_store.specs.declared.lit.Lit.{Lit}
use Rattle.clause_store.specs.UnitRule.{MakesTrue, MakesFalse, LeavesOpen, AllAtRest, Follows}
use Rattle.sat_trail.specs.declared.step.Step.{Step}
use Rattle.sat_trail.specs.declared.watcher.Pair.{Pair}
use Rattle.sat_trail.specs.Paths.{Path, IsPath, IsWalk, IsDecision, NoDecision, value_in, step_of}
use Rattle.sat_trail.specs.Watching.{Watched}
use Rattle.sat_trail.specs.Visits.{IsFalseClause, IsGrown}

-- the clauses, the steps, and the number of steps that the rule has gone through
pub record State : Type 0 where
  pub vars : ℕ
  pub clauses : List (List Lit)
  pub steps : List Step
  pub next : ℕ

abbrev pub path_of : State → Path
path_of s = record { vars = s.vars; steps = s.steps }

abbrev pub with_decision : State → Lit → State
with_decision s l = record { vars = s.vars; clauses = s.clauses; steps = s.steps ++ step_of l None ∷ []; next = s.next }

-- the first steps, which the rule has gone through
abbrev pub with_front : State → ℕ → State
with_front s n = record { vars = s.vars; clauses = s.clauses; steps = take n s.steps; next = n }

abbrev pub with_line : State → List Lit → State
with_line s line = record { vars = s.vars; clauses = s.clauses ++ line ∷ []; steps = s.steps; next = s.next }

-- one clause more, and the step that it forces
abbrev pub with_unit : State → List Lit → Lit → State
with_unit s line key = record { vars = s.vars; clauses = s.clauses ++ line ∷ []; steps = s.steps ++ step_of key (Some (length s.clauses)) ∷ []; next = s.next }

-- two literals of the line that differ are open
pub record CanOpen (steps : List Step) (line : List Lit) (one two : Lit) : Type 0 where
  pub one_listed : Contains line one
  pub two_listed : Contains line two
  pub differ : one ≢ two
  pub one_open : LeavesOpen (value_in steps) one
  pub two_open : LeavesOpen (value_in steps) two

-- One literal of the line is open, its others are false. Before each decision a second one was open too.
pub record CanUnit (steps : List Step) (line : List Lit) (key second : Lit) : Type 0 where
  pub key_listed : Contains line key
  pub second_listed : Contains line second
  pub alone : key ≡ second → (k : Lit) → Contains line k → k ≡ key
  pub still_open : LeavesOpen (value_in steps) key
  pub others : (k : Lit) → Contains line k → k ≢ key → MakesFalse (value_in steps) k
  pub held : (p : ℕ) → IsDecision steps p → (key ≢ second) × LeavesOpen (value_in (take p steps)) second

-- nothing is left to do, or a clause is false
abbrev pub IsSettled : State → Option ℕ → Type 0
IsSettled s None = (s.next ≡ length s.steps) × AllAtRest (value_in s.steps) s.clauses
IsSettled s (Some c) = IsFalseClause s.clauses (value_in s.steps) c

-- more steps, all of them forced
pub record IsPropagated (old new : State) (clash : Option ℕ) : Type 0 where
  pub same_vars : new.vars ≡ old.vars
  pub same_clauses : new.clauses ≡ old.clauses
  pub grown : IsGrown old.steps new.steps
  pub settled : IsSettled new clash

-- the clauses before this number that watch one literal twice are true, by forced steps alone
pub record IsLoading (t : Path) (w : Watched) (at : ℕ) : Type 0 where
  pub vars : t.vars ≡ w.vars
  pub path : IsPath t
  pub walk : IsWalk w.clauses t.steps
  pub forced : NoDecision t.steps
  pub alone : (c : ℕ) (clause : List Lit) (pair : Pair) → c < at → slice_get w.clauses c ≡ Some clause → slice_get w.pairs c ≡ Some pair → pair.one ≡ pair.two → Any (MakesTrue (value_in t.steps)) clause

-- one more is so, or the clauses can't be at rest
abbrev pub IsPut : Path → Watched → ℕ → Bool → Type 0
IsPut t w at true = IsLoading t w (at + 1)
IsPut t w at false = Follows w.clauses []

-- these clauses with forced steps alone
pub record IsFirst (vars : ℕ) (clauses : List (List Lit)) (s : State) : Type 0 where
  pub same_vars : s.vars ≡ vars
  pub same_clauses : s.clauses ≡ clauses
  pub forced : NoDecision s.steps

abbrev pub IsLoaded : ℕ → List (List Lit) → Option State → Type 0
IsLoaded vars clauses None = Follows clauses []
IsLoaded vars clauses (Some s) = IsFirst vars clauses s

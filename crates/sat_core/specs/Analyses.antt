-- How a false clause leads down the steps to a line.
use Rattle.std.specs.Prelude.{◌≡◌, ◌≢◌, ◌⊎◌, ◌≤◌, ◌<◌, ℕ, Bool, Option, Some, None, List, [], ◌∷◌, length, take, slice_get, All, Contains}
use Rattle.clause_store.specs.declared.lit.Lit.{Lit}
use Rattle.clause_store.specs.Literals.{opposite}
use Rattle.clause_store.specs.Formula.{IsKnown}
use Rattle.clause_store.specs.UnitRule.{Partial, MakesTrue, MakesFalse, LeavesOpen, AllAtRest, Follows}
use Rattle.sat_trail.specs.declared.step.Step.{Step}
use Rattle.sat_trail.specs.Paths.{IsDecision, value_in}
use Rattle.sat_trail.specs.Engines.{State}
use Rattle.sat_core.specs.declared.analysis.Choice.{Choice}
use Rattle.sat_core.specs.declared.analysis.Choice.TheVariants.{Skip, Expand, Key}
use Rattle.sat_core.specs.declared.analysis.Below.{Below}
use Rattle.sat_core.specs.declared.analysis.Below.TheVariants.{Pass, Widen, Keep}
use Rattle.sat_core.specs.declared.analysis.Cut.{Cut}
use Rattle.sat_core.specs.declared.analysis.Jump.{Jump}
use Rattle.sat_core.specs.declared.analysis.Learned.{Learned}
use Rattle.sat_core.specs.Marks.{IsMarked, NoneMarked}

-- Nothing at rest makes the line false and the marked steps below this place true.
abbrev pub IsLeft : List (List Lit) → List Step → List Bool → ℕ → List Lit → Type 0
IsLeft clauses steps marks below line =
    (v : Partial) → AllAtRest v clauses → All (MakesFalse v) line
    → ((p : ℕ) (s : Step) → p < below → slice_get steps p ≡ Some s → IsMarked marks s.lit.var → MakesTrue v s.lit) → ⊥

-- the step at this place was forced by a clause
pub record IsForced (clauses : List (List Lit)) (steps : List Step) (place c : ℕ) : Type 0 where
  pub step : Step
  pub there : slice_get steps place ≡ Some step
  pub reason : step.reason ≡ Some c
  pub within : c < length clauses

-- the step's variable is of those that lines may name, or was decided
abbrev pub IsAllowed : List Bool → Step → Type 0
IsAllowed first s = IsMarked first s.lit.var ⊎ (s.reason ≡ None)

-- The step at this place is the only marked one from a decision on.
pub record IsKey (steps : List Step) (first marks : List Bool) (place decision : ℕ) : Type 0 where
  pub step : Step
  pub there : slice_get steps place ≡ Some step
  pub decided : IsDecision steps decision
  pub upto : decision ≤ place
  pub quiet : NoneMarked steps marks decision place
  pub allowed : IsAllowed first step

-- the step at this place isn't marked
abbrev pub IsUnmarked : List Step → List Bool → ℕ → Type 0
IsUnmarked steps marks place = (s : Step) → slice_get steps place ≡ Some s → IsMarked marks s.lit.var → ⊥

abbrev pub IsChoice : State → List Bool → List Bool → ℕ → Choice → Type 0
IsChoice s first marks place Skip = IsUnmarked s.steps marks place
IsChoice s first marks place (Expand c) = IsForced s.clauses s.steps place c
IsChoice s first marks place (Key d) = IsKey s.steps first marks place d

abbrev pub IsBelow : State → List Bool → List Bool → ℕ → Below → Type 0
IsBelow s first marks place Pass = IsUnmarked s.steps marks place
IsBelow s first marks place (Widen c) = IsForced s.clauses s.steps place c
IsBelow s first marks place Keep = (step : Step) × (slice_get s.steps place ≡ Some step) × IsAllowed first step

-- the opposite of a step's literal as a line of its own, and what is left below the decision
pub record IsCut (s : State) (first marks : List Bool) (cut : Cut) : Type 0 where
  pub step : Step
  pub there : slice_get s.steps cut.key ≡ Some step
  pub decided : IsDecision s.steps cut.decision
  pub upto : cut.decision ≤ cut.key
  pub allowed : IsAllowed first step
  pub left : IsLeft s.clauses s.steps marks cut.decision (opposite step.lit ∷ [])

-- nothing is at rest, or a cut
abbrev pub IsFoundCut : State → List Bool → List Bool → Option Cut → Type 0
IsFoundCut s first marks None = Follows s.clauses []
IsFoundCut s first marks (Some cut) = IsCut s first marks cut

-- no variable twice
abbrev pub IsOnce : List Lit → Type 0
IsOnce line = (i j : ℕ) (a b : Lit) → slice_get line i ≡ Some a → slice_get line j ≡ Some b → a.var ≡ b.var → i ≡ j

-- the variable is of those that lines may name, or was decided
abbrev pub IsNameable : List Bool → List Step → ℕ → Type 0
IsNameable first steps x = IsMarked first x ⊎ ((p : ℕ) × (d : IsDecision steps p) × (d.step.lit.var ≡ x))

-- The highest literal beside the key: none, and then no decision lies between; or no decision above it.
abbrev pub IsTop : List Step → List Lit → Lit → ℕ → ℕ → Option ℕ → Type 0
IsTop steps line key low to None = ((k : Lit) → Contains line k → k ≡ key) × ((p : ℕ) → low ≤ p → p < to → IsDecision steps p → ⊥)
IsTop steps line key low to (Some q) =
    (low ≤ q) × (q < to) × ((p : ℕ) → low ≤ p → p < to → IsDecision steps p → p ≤ q) × ((s : Step) → slice_get steps q ≡ Some s → Contains line (opposite s.lit))

-- the line so far, what is left below this place, and where to go back to
pub record IsGathered (s : State) (first marks : List Bool) (key low : ℕ) (line : List Lit) (jump : Jump) : Type 0 where
  pub step : Step
  pub there : slice_get s.steps key ≡ Some step
  pub keyed : Contains line (opposite step.lit)
  pub known : IsKnown s.vars line
  pub left : IsLeft s.clauses s.steps marks low line
  pub allowed : (k : Lit) → Contains line k → IsNameable first s.steps k.var
  pub upto : jump.to ≤ key
  pub bound : low ≤ jump.to
  pub decided : IsDecision s.steps jump.to
  pub others : (k : Lit) → Contains line k → k ≢ opposite step.lit → MakesFalse (value_in (take jump.to s.steps)) k
  pub top : IsTop s.steps line (opposite step.lit) low jump.to jump.top
  pub above : (k : Lit) → Contains line k → LeavesOpen (value_in (take low s.steps)) k
  pub once : IsOnce line

-- A line, its literal that stays open where the jump ends, and another that was open before each earlier decision.
pub record IsLearned (s : State) (first : List Bool) (line : List Lit) (key second : Lit) (to : ℕ) : Type 0 where
  pub known : IsKnown s.vars line
  pub follows : Follows s.clauses line
  pub allowed : (k : Lit) → Contains line k → IsNameable first s.steps k.var
  pub once : IsOnce line
  pub decided : IsDecision s.steps to
  pub key_listed : Contains line key
  pub second_listed : Contains line second
  pub key_open : LeavesOpen (value_in (take to s.steps)) key
  pub others : (k : Lit) → Contains line k → k ≢ key → MakesFalse (value_in (take to s.steps)) k
  pub alone : key ≡ second → (k : Lit) → Contains line k → k ≡ key
  pub held : (p : ℕ) → p < to → IsDecision s.steps p → (key ≢ second) × LeavesOpen (value_in (take p s.steps)) second

-- nothing is at rest, or a line is learned
abbrev pub IsAnalysed : State → List Bool → Option Learned → Type 0
IsAnalysed s first None = Follows s.clauses []
IsAnalysed s first (Some learned) = IsLearned s first learned.line.items learned.key learned.second learned.to

-- a jump goes back to this decision while its line has no literal beside the key
abbrev pub IsLowered : List Step → ℕ → Jump → Jump → Type 0
IsLowered steps place jump next =
    ((next ≡ record { to = place; top = None }) × (jump.top ≡ None) × IsDecision steps place) ⊎ ((next ≡ jump) × (jump.top ≡ None → IsDecision steps place → ⊥))

-- the first literal beside the key is the highest
abbrev pub IsKept : ℕ → Jump → Jump → Type 0
IsKept place jump next = ((jump.top ≡ None) × (next ≡ record { to = jump.to; top = Some place })) ⊎ ((q : ℕ) × (jump.top ≡ Some q) × (next ≡ jump))

abbrev pub IsLiteralAt : List Step → Lit → Option ℕ → Lit → Type 0
IsLiteralAt steps key None l = l ≡ key
IsLiteralAt steps key (Some q) l = (s : Step) × (slice_get steps q ≡ Some s) × (l ≡ opposite s.lit)

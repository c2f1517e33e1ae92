-- Steps that give literals a truth value, one after the other.
use Rattle.std.specs.Prelude.{◌≡◌, ◌≢◌, ◌≤◌, ◌<◌, ◌*◌, ◌==◌, ℕ, if◌then◌else◌, Option, Some, None, List, [], ◌∷◌, ◌++◌, length, take, slice_get, All, Contains}
use Rattle.clause_store.specs.declared.lit.Lit.{Lit}
use Rattle.clause_store.specs.UnitRule.{Partial, MakesTrue, MakesFalse, LeavesOpen, AllAtRest}
use Rattle.sat_trail.specs.declared.step.Step.{Step}
use Rattle.sat_trail.specs.declared.truth.Truth.{Truth}
use Rattle.sat_trail.specs.declared.truth.Truth.TheVariants.{Open, True, False}
use Rattle.sat_trail.specs.Packing.{place_of}

-- the number of variables, and the steps
pub record Path : Type 0 where
  pub vars : ℕ
  pub steps : List Step

-- the values that the steps give
abbrev pub value_in : List Step → Partial
value_in [] x = None
value_in (s ∷ steps) x = if x == s.lit.var then Some s.lit.positive else value_in steps x

-- each step's literal was open before it
abbrev pub IsFresh : List Step → Type 0
IsFresh steps = (p : ℕ) (s : Step) → slice_get steps p ≡ Some s → value_in (take p steps) s.lit.var ≡ None

-- Steps name known variables, each of them once: so there are no more steps than variables.
pub record IsPath (t : Path) : Type 0 where
  pub known : All (λ (s : Step). s.lit.var < t.vars) t.steps
  pub fresh : IsFresh t.steps
  pub few : length t.steps ≤ t.vars

-- what is said of the literal is so
abbrev pub IsTruth : Partial → Lit → Truth → Type 0
IsTruth v l Open = LeavesOpen v l
IsTruth v l True = MakesTrue v l
IsTruth v l False = MakesFalse v l

-- a table of what is known of each literal, beside the steps
pub record IsTrail (vars : ℕ) (truths : List Truth) (steps : List Step) : Type 0 where
  pub all : length truths ≡ 2 * vars
  pub same : (l : Lit) (t : Truth) → slice_get truths (place_of l) ≡ Some t → IsTruth (value_in steps) l t
  pub path : IsPath record { vars = vars; steps = steps }

abbrev pub step_of : Lit → Option ℕ → Step
step_of l reason = record { lit = l; reason = reason }

-- one step more
abbrev pub with_step : Path → Lit → Option ℕ → Path
with_step t l reason = record { vars = t.vars; steps = t.steps ++ step_of l reason ∷ [] }

-- the clause of this number has no literal but this one that isn't false
pub record IsReason (clauses : List (List Lit)) (v : Partial) (l : Lit) (r : ℕ) : Type 0 where
  pub within : r < length clauses
  pub others : (c : List Lit) → slice_get clauses r ≡ Some c → (k : Lit) → Contains c k → k ≢ l → MakesFalse v k

-- why a literal was made true: it was decided where the unit rule had nothing to do, or a clause forced it
abbrev pub IsWhy : List (List Lit) → Partial → Lit → Option ℕ → Type 0
IsWhy clauses v l None = AllAtRest v clauses
IsWhy clauses v l (Some r) = IsReason clauses v l r

-- each step has its reason in the steps before it
pub record IsWalk (clauses : List (List Lit)) (steps : List Step) : Type 0 where
  pub why : (p : ℕ) (s : Step) → slice_get steps p ≡ Some s → IsWhy clauses (value_in (take p steps)) s.lit s.reason

-- a step of this number was decided
pub record IsDecision (steps : List Step) (p : ℕ) : Type 0 where
  pub step : Step
  pub there : slice_get steps p ≡ Some step
  pub decided : step.reason ≡ None

-- no step was decided
abbrev pub NoDecision : List Step → Type 0
NoDecision steps = (p : ℕ) → IsDecision steps p → ⊥

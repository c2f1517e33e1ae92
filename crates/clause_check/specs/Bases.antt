-- What clauses and lines give without assumption.
use Rattle.std.specs.Prelude.{◌≡◌, ◌≢◌, ◌↔◌, ℕ, Bool, true, false, Option, Some, None, List, [], Any, Contains}
use Rattle.clause_store.specs.declared.lit.Lit.{Lit}
use Rattle.clause_store.specs.UnitRule.{Partial, MakesTrue, LeavesOpen, AllAtRest, Follows}
use Rattle.sat_trail.specs.declared.step.Step.{Step}
use Rattle.sat_trail.specs.Paths.{NoDecision, value_in}
use Rattle.sat_trail.specs.Engines.{State, IsSettled}

-- the rule has nothing to do at the same values
abbrev pub SameRest : List (List Lit) → List (List Lit) → Type 0
SameRest clauses others = (v : Partial) → AllAtRest v clauses ↔ AllAtRest v others

-- nothing was assumed, and the rule has nothing to do
pub record IsCalm (s : State) : Type 0 where
  pub forced : NoDecision s.steps
  pub settled : IsSettled s None

-- The engine stands for these clauses. It leaves out some that its steps make true.
pub record IsBase (vars : ℕ) (clauses : List (List Lit)) (s : State) : Type 0 where
  pub same_vars : s.vars ≡ vars
  pub same_rest : SameRest s.clauses clauses
  pub calm : IsCalm s

-- an engine of these clauses; none where they refute themselves
abbrev pub IsBaseOf : ℕ → List (List Lit) → Option State → Type 0
IsBaseOf vars clauses None = Follows clauses []
IsBaseOf vars clauses (Some s) = IsBase vars clauses s

-- an open literal of the line
abbrev pub IsOpenOf : List Step → List Lit → Lit → Type 0
IsOpenOf steps line l = Contains line l × LeavesOpen (value_in steps) l

-- an open literal of the line; none where it has none
abbrev pub IsFirstOpen : List Step → List Lit → Option Lit → Type 0
IsFirstOpen steps line None = (k : Lit) → Contains line k → LeavesOpen (value_in steps) k → ⊥
IsFirstOpen steps line (Some l) = IsOpenOf steps line l

-- an open literal of the line beside this one; none where it has no other
abbrev pub IsBeside : List Step → List Lit → Lit → Option Lit → Type 0
IsBeside steps line key None = (k : Lit) → Contains line k → LeavesOpen (value_in steps) k → k ≡ key
IsBeside steps line key (Some l) = IsOpenOf steps line l × (l ≢ key)

-- whether the literal is true
abbrev pub TellsTrue : Partial → Lit → Bool → Type 0
TellsTrue v l true = MakesTrue v l
TellsTrue v l false = MakesTrue v l → ⊥

-- whether the literal is open
abbrev pub TellsOpen : Partial → Lit → Bool → Type 0
TellsOpen v l true = LeavesOpen v l
TellsOpen v l false = LeavesOpen v l → ⊥

-- whether the literal is open, and isn't the other
abbrev pub TellsBeside : Partial → Lit → Lit → Bool → Type 0
TellsBeside v l key true = LeavesOpen v l × (l ≢ key)
TellsBeside v l key false = LeavesOpen v l → l ≡ key

-- whether some literal of the line is true
abbrev pub TellsHeld : Partial → List Lit → Bool → Type 0
TellsHeld v line true = Any (MakesTrue v) line
TellsHeld v line false = (k : Lit) → Contains line k → MakesTrue v k → ⊥

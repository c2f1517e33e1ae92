-- A search for an assignment, with the lines that it learns.
use Rattle.std.specs.Prelude.{◌≡◌, ◌⊎◌, ◌≤◌, ◌<◌, ℕ, Bool, Option, Some, None, IsSome, List, ◌∷◌, [], ◌++◌, length, slice_get, slice_index_or, false, All, Contains}
use Rattle.clause_store.specs.declared.lit.Lit.{Lit}
use Rattle.clause_store.specs.Literals.{Satisfies}
use Rattle.clause_store.specs.Formula.{Formula}
use Rattle.clause_store.specs.UnitRule.{LeavesOpen}
use Rattle.sat_trail.specs.declared.step.Step.{Step}
use Rattle.sat_trail.specs.Paths.{value_in}
use Rattle.sat_trail.specs.Engines.{State, IsSettled}
use Rattle.sat_core.specs.declared.answer.Answer.{Answer}
use Rattle.sat_core.specs.declared.answer.Answer.TheVariants.{Model, Refuted, Spent}
use Rattle.sat_core.specs.declared.search.Turn.{Turn}
use Rattle.sat_core.specs.declared.search.Turn.TheVariants.{Found, Closed, Ended, Paused}
use Rattle.sat_core.specs.Marks.{IsMarked}
use Rattle.sat_core.specs.Lines.{FirstDecide, AreLines, NoneEmpty, EndsEmpty, value_at}

-- the marked variables are of the list
abbrev pub MarksFirst : List Bool → List ℕ → Type 0
MarksFirst marks first = (x : ℕ) → IsMarked marks x → Contains first x

abbrev pub AllDecided : List Step → ℕ → Type 0
AllDecided steps vars = (x : ℕ) → x < vars → IsSome (value_in steps x)

abbrev pub FirstDecided : List Step → List ℕ → Type 0
FirstDecided steps first = All (λ x. IsSome (value_in steps x)) first

-- a literal of this variable, if it is open
abbrev pub IsOpenAt : State → ℕ → Option Lit → Type 0
IsOpenAt s x None = IsSome (value_in s.steps x)
IsOpenAt s x (Some l) = (l.var ≡ x) × LeavesOpen (value_in s.steps) l

-- an open literal, if there is one: of the list's variables, as long as one of them is open
abbrev pub IsPicked : State → List ℕ → Option Lit → Type 0
IsPicked s first None = AllDecided s.steps s.vars
IsPicked s first (Some l) = (l.var < s.vars) × LeavesOpen (value_in s.steps) l × (Contains first l.var ⊎ FirstDecided s.steps first)

-- where the list's variables decide all, these alone are decided freely
abbrev pub IsOver : ℕ → List (List Lit) → List ℕ → List Step → Type 0
IsOver vars base first steps = FirstDecide vars base first → (p : ℕ) (s : Step) → slice_get steps p ≡ Some s → s.reason ≡ None → Contains first s.lit.var

-- an engine of the clauses and the lines so far
pub record IsDescent (vars : ℕ) (base : List (List Lit)) (first : List ℕ) (so_far : List (List Lit)) (s : State) : Type 0 where
  pub same_vars : s.vars ≡ vars
  pub holds : s.clauses ≡ base ++ so_far
  pub over : IsOver vars base first s.steps

-- a clause is false, or all is decided where the rule has nothing to do
abbrev pub IsBottom : State → Option ℕ → Type 0
IsBottom s None = IsSettled s None × AllDecided s.steps s.vars
IsBottom s (Some c) = IsSettled s (Some c)

-- the rule has nothing to do, or a clause is false, after at least so many steps
pub record IsDescended (vars : ℕ) (base : List (List Lit)) (first : List ℕ) (so_far : List (List Lit)) (least : ℕ) (s : State) (clash : Option ℕ) : Type 0 where
  pub descent : IsDescent vars base first so_far s
  pub settled : IsSettled s clash
  pub longer : least ≤ length s.steps
  pub few : length s.steps ≤ vars

-- the values of the steps
abbrev pub IsModel : State → List Bool → Type 0
IsModel s values = (length values ≡ s.vars) × ((x : ℕ) (b : Bool) → x < s.vars → value_in s.steps x ≡ Some b → slice_index_or values x false ≡ b)

-- one line more, and no new decision
pub record IsBack (old : State) (line : List Lit) (new : State) : Type 0 where
  pub same_vars : new.vars ≡ old.vars
  pub more : new.clauses ≡ old.clauses ++ line ∷ []
  pub decisions : (p : ℕ) (s : Step) → slice_get new.steps p ≡ Some s → s.reason ≡ None → slice_get old.steps p ≡ Some s

-- lines so far, none of them empty, fewer than the budget
pub record IsSoFar (f : Formula) (first : List ℕ) (budget : ℕ) (so_far : List (List Lit)) : Type 0 where
  pub lines : AreLines f.vars f.clauses first so_far
  pub none_empty : NoneEmpty so_far
  pub fewer : length so_far < budget

-- lines of which the last is the empty one, no more of them than the budget
abbrev pub IsRefutation : Formula → List ℕ → ℕ → List (List Lit) → Type 0
IsRefutation f first budget lines = AreLines f.vars f.clauses first lines × EndsEmpty lines × (length lines ≤ budget)

-- an assignment, the empty line, as many lines as the budget, or more lines than before
abbrev pub IsTurn : Formula → List ℕ → ℕ → List (List Lit) → Turn → Type 0
IsTurn f first budget before (Found values) = (length values.items ≡ f.vars) × Satisfies (value_at values.items) f.clauses
IsTurn f first budget before (Closed lines) = IsRefutation f first budget lines
IsTurn f first budget before (Ended lines) = AreLines f.vars f.clauses first lines × (length lines ≡ budget) × NoneEmpty lines
IsTurn f first budget before (Paused lines) = IsSoFar f first budget lines × (length before < length lines)

abbrev pub IsAnswer : Formula → List ℕ → ℕ → Answer → Type 0
IsAnswer f first budget (Model values) = (length values ≡ f.vars) × Satisfies (value_at values) f.clauses
IsAnswer f first budget (Refuted lines) = IsRefutation f first budget lines
IsAnswer f first budget (Spent lines) = AreLines f.vars f.clauses first lines × (length lines ≡ budget) × NoneEmpty lines

-- clauses, and the variables that are decided before all others
pub record Task : Type 0 where
  pub formula : Formula
  pub first : List ℕ

-- the values satisfy the clauses
abbrev pub IsFoundBy : Formula → List Bool → Type 0
IsFoundBy f values = (length values ≡ f.vars) × Satisfies (value_at values) f.clauses

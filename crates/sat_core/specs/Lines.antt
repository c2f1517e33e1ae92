-- What holds of the lines that a search learns.
use Rattle.std.specs.Prelude.{◌≡◌, ◌≢◌, ◌⊎◌, ◌<◌, ◌-◌, ℕ, Bool, false, Some, List, [], ◌++◌, length, take, slice_get, slice_index_or, All, Contains}
use Rattle.clause_store.specs.declared.lit.Lit.{Lit}
use Rattle.clause_store.specs.Literals.{Assignment}
use Rattle.clause_store.specs.Formula.{IsKnown}
use Rattle.clause_store.specs.UnitRule.{Partial, MakesFalse, LeavesOpen, AllAtRest, Follows}
use Rattle.clause_store.specs.Rooted.{IsRooted}
use Rattle.sat_core.specs.Analyses.{IsOnce}

-- With the line's other literals false and the unit rule applied, no clause is false, and this literal stays open:
-- there are such values at which the rule has nothing to do.
pub record HasKey (clauses : List (List Lit)) (line : List Lit) : Type 0 where
  pub key : Lit
  pub listed : Contains line key
  pub values : Partial
  pub rests : AllAtRest values clauses
  pub key_open : LeavesOpen values key
  pub others : (k : Lit) → Contains line k → k ≢ key → MakesFalse values k

-- the line has all the literals of the clause
abbrev pub HasAll : List Lit → List Lit → Type 0
HasAll line clause = (k : Lit) → Contains clause k → Contains line k

-- A line with a key has not all the literals of a clause.
abbrev pub KeysDiffer : Type 0
KeysDiffer = (clauses : List (List Lit)) (line clause : List Lit) → HasKey clauses line → Contains clauses clause → HasAll line clause → ⊥

-- from any values of these variables the unit rule gives every variable a value, or makes a clause false
abbrev pub FirstDecide : ℕ → List (List Lit) → List ℕ → Type 0
FirstDecide vars clauses first = (l : Lit) → l.var < vars → IsRooted clauses first l

-- a line of a derivation, after the lines before it
pub record IsNewLine (vars : ℕ) (base : List (List Lit)) (before : List (List Lit)) (first : List ℕ) (line : List Lit) : Type 0 where
  pub known : IsKnown vars line
  pub follows : Follows (base ++ before) line
  pub key : (line ≡ []) ⊎ HasKey (base ++ before) line
  pub over : FirstDecide vars base first → (k : Lit) → Contains line k → Contains first k.var
  pub once : IsOnce line
  pub new : (older : List Lit) → Contains before older → HasAll line older → ⊥

abbrev pub AreLines : ℕ → List (List Lit) → List ℕ → List (List Lit) → Type 0
AreLines vars base first lines = (i : ℕ) (line : List Lit) → slice_get lines i ≡ Some line → IsNewLine vars base (take i lines) first line

abbrev pub NoneEmpty : List (List Lit) → Type 0
NoneEmpty lines = All (λ line. line ≢ []) lines

abbrev pub EndsEmpty : List (List Lit) → Type 0
EndsEmpty lines = slice_get lines (length lines - 1) ≡ Some []

-- the assignment of a list of truth values
abbrev pub value_at : List Bool → Assignment
value_at values x = slice_index_or values x false

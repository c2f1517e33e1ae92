-- The unit rule step by step: again and again the last open literal of a clause whose others are false is made true.
use Rattle.std.specs.Prelude.{◌≢◌, ◌⊎◌, ◌==◌, not, if◌then◌else◌, Some, None, List, [], ◌∷◌, All, Contains}
use Rattle.clause_store.specs.declared.lit.Lit.{Lit}
use Rattle.clause_store.specs.Literals.{opposite}
use Rattle.clause_store.specs.UnitRule.{Partial, MakesTrue, MakesFalse, LeavesOpen}

-- these values, and the literal true
abbrev pub with_true : Partial → Lit → Partial
with_true v l x = if x == l.var then Some l.positive else v x

-- the literals of the line false, and all else open
abbrev pub all_false : List Lit → Partial
all_false [] x = None
all_false (l ∷ line) x = if x == l.var then Some (not l.positive) else all_false line x

-- the literal is open, and all others of the clause are false
pub record IsLastOpen (v : Partial) (clause : List Lit) (l : Lit) : Type 0 where
  pub listed : Contains clause l
  pub is_open : LeavesOpen v l
  pub others_false : (k : Lit) → Contains clause k → k ≢ l → MakesFalse v k

-- the values that come of these by steps of the rule
pub data Reached (clauses : List (List Lit)) (from : Partial) : Partial → Type 0 where
  start : Reached clauses from from
  step : (v : Partial) (clause : List Lit) (l : Lit) → Reached clauses from v → Contains clauses clause → IsLastOpen v clause l
      → Reached clauses from (with_true v l)

-- some values reached make a clause false
pub record ReachesFalse (clauses : List (List Lit)) (from : Partial) : Type 0 where
  pub values : Partial
  pub reached : Reached clauses from values
  pub clause : List Lit
  pub listed : Contains clauses clause
  pub is_false : All (MakesFalse values) clause

-- some values reached make the literal true
pub record ReachesTrue (clauses : List (List Lit)) (from : Partial) (l : Lit) : Type 0 where
  pub values : Partial
  pub reached : Reached clauses from values
  pub is_true : MakesTrue values l

pub record HasOpposites (line : List Lit) : Type 0 where
  pub literal : Lit
  pub listed : Contains line literal
  pub opposite_listed : Contains line (opposite literal)

-- The line has a literal and its opposite, or with its literals false the rule makes a clause false.
abbrev pub FollowsBySteps : List (List Lit) → List Lit → Type 0
FollowsBySteps clauses line = HasOpposites line ⊎ ReachesFalse clauses (all_false line)

-- What a table says of two places, row by row.
use Rattle.std.specs.Prelude.{◌≡◌, ℕ, ◌<◌, ◌+◌, ◌*◌, Bool, false, true, not, ◌&&◌, nat_eq, nat_lt, if◌then◌else◌, List, [], ◌∷◌, ◌++◌, length, get_or}
use Rattle.clause_store.specs.Formula.{Formula}
use Rattle.order_clauses.specs.declared.pair.Pair.{Pair}
use Rattle.clause_store.specs.declared.lit.Lit.{Lit}
use Rattle.order_clauses.specs.declared.order_lit.OrderLit.{OrderLit}
use Rattle.order_clauses.specs.declared.order_lit.OrderLit.TheVariants as order_lit
use Rattle.order_clauses.specs.declared.table.Table.{Table}
use Rattle.order_clauses.specs.Literals.{literal_of}

-- whether one place is recorded to stand before another: no place stands before itself
abbrev pub recorded_at : List Bool → ℕ → ℕ → ℕ → Bool
recorded_at recorded count i j = not (nat_eq i j) && get_or recorded (i * count + j) false

abbrev pub number_at : List ℕ → ℕ → ℕ → ℕ → ℕ
number_at numbers count i j = get_or numbers (i * count + j) 0

abbrev pub recorded_in : Table → ℕ → ℕ → Bool
recorded_in table i j = recorded_at table.recorded table.count i j

-- neither of two places stands before the other by what is recorded
abbrev pub open_literal : Table → ℕ → ℕ → OrderLit
open_literal table i j =
    if nat_lt i j
    then order_lit.Is (literal_of (number_at table.numbers table.count i j) true)
    else order_lit.Is (literal_of (number_at table.numbers table.count j i) false)

-- what stands for "the first of two places before the other"
abbrev pub lit_in : Table → ℕ → ℕ → OrderLit
lit_in table i j =
    if nat_eq i j
    then order_lit.Never
    else (if recorded_in table i j then order_lit.Always else (if recorded_in table j i then order_lit.Never else open_literal table i j))

-- there are as many rows as columns, and a truth value and a number for each place of them
pub record IsSquare (table : Table) : Type 0 where
  pub recorded : length table.recorded ≡ table.count * table.count
  pub numbers : length table.numbers ≡ table.count * table.count

-- the variable of an order literal is one of so many
abbrev pub IsKnownOrder : ℕ → OrderLit → Type 0
IsKnownOrder vars o = (l : Lit) → o ≡ order_lit.Is l → l.var < vars

abbrev pub KnowsTable : ℕ → Table → Type 0
KnowsTable vars table = (i j : ℕ) → i < table.count → j < table.count → IsKnownOrder vars (lit_in table i j)

-- neither of two places is recorded to stand before the other
abbrev pub is_open_at : List Bool → ℕ → ℕ → ℕ → Bool
is_open_at recorded count i j = not (recorded_at recorded count i j) && not (recorded_at recorded count j i)

-- the first place is the smaller one, and they are open
abbrev pub is_pair_at : List Bool → ℕ → ℕ → ℕ → Bool
is_pair_at recorded count i j = nat_lt i j && is_open_at recorded count i j

-- a pair got the next variable
pub record IsMade (pair : Pair) (old new : Formula) (before after : List Pair) (var : ℕ) : Type 0 where
  pub number : var ≡ old.vars
  pub formula : new ≡ record old { vars = old.vars + 1 }
  pub pairs : after ≡ before ++ pair ∷ []

-- a pair got the next variable, and two other places none
pub record IsNumber (is_pair : Bool) (pair : Pair) (old new : Formula) (before after : List Pair) (var : ℕ) : Type 0 where
  pub made : is_pair ≡ true → IsMade pair old new before after var
  pub formula : is_pair ≡ false → new ≡ old
  pub pairs : is_pair ≡ false → after ≡ before

-- The order of chosen steps of a log, as literals.
use Rattle.std.specs.Prelude.{◌≡◌, ◌≢◌, ◌↔◌, ◌⊎◌, ℕ, ◌<◌, Bool, true, List, length, get_or}
use Rattle.odr_log.specs.declared.log.Log.{Log}
use Rattle.odr_log.specs.declared.log.Pos.{Pos}
use Rattle.rv_model.specs.RecordedOrder.{RecordedOrder, IsOpen}
use Rattle.clause_store.specs.Formula.{Formula}
use Rattle.order_clauses.specs.declared.order_lit.OrderLit.{OrderLit}
use Rattle.order_clauses.specs.declared.ordered.OrderedTable.{OrderedTable}
use Rattle.order_clauses.specs.declared.table.Table.{Table}
use Rattle.order_clauses.specs.Orders.{IsStrict, IsStrictBelow}
use Rattle.order_clauses.specs.Tables.{pair_at, IsOrders, IsTable}
use Rattle.order_clauses.specs.Grid.{recorded_in, lit_in, IsSquare}

-- the step at a place of the chosen ones
abbrev pub position : List Pos → ℕ → Pos
position chosen i = get_or chosen i (record { thread = 0; step = 0 })

-- the first place at which a step stands among the chosen ones
pub record IsFirstPlace (chosen : List Pos) (at : Pos) (place : ℕ) : Type 0 where
  pub within : place < length chosen
  pub is : position chosen place ≡ at
  pub first : (k : ℕ) → k < place → position chosen k ≢ at

-- The literals of chosen steps: Always exactly where the log records so, a variable exactly for open pairs, and clauses
-- whose assignments are the total orders that keep the recorded order.
pub record IsOrderVars (log : Log) (chosen : List Pos) (ordered : OrderedTable) (old new : Formula) : Type 0 where
  pub count : ordered.table.count ≡ length chosen
  pub first : ordered.first ≡ old.vars
  pub recorded : (i j : ℕ) → i < length chosen → j < length chosen
      → (recorded_in ordered.table i j ≡ true) ↔ RecordedOrder log (position chosen i) (position chosen j)
  pub strict : IsStrictBelow (length chosen) (recorded_in ordered.table)
  pub table : IsTable (length chosen) (recorded_in ordered.table) (lit_in ordered.table) old.vars ordered.table.pairs
  pub orders : IsOrders (length chosen) (recorded_in ordered.table) (lit_in ordered.table) old new

-- each variable is that of an open pair of chosen steps
abbrev pub PairsAreOpen : Log → List Pos → OrderedTable → Type 0
PairsAreOpen log chosen ordered =
    (k : ℕ) → k < length ordered.table.pairs
    → IsOpen log (position chosen (pair_at ordered.table.pairs k).first) (position chosen (pair_at ordered.table.pairs k).second)

-- chosen steps and their table
pub record ChosenOrder : Type 0 where
  pub chosen : List Pos
  pub ordered : OrderedTable

-- the table has a place for each chosen step
pub record IsTableOf (chosen : List Pos) (table : Table) : Type 0 where
  pub square : IsSquare table
  pub count : table.count ≡ length chosen

-- the literal of the places at which two chosen steps stand
pub record IsLitOf (order : ChosenOrder) (a b : Pos) (lit : OrderLit) : Type 0 where
  pub i : ℕ
  pub j : ℕ
  pub i_in : i < length order.chosen
  pub j_in : j < length order.chosen
  pub is_a : position order.chosen i ≡ a
  pub is_b : position order.chosen j ≡ b
  pub literal : lit ≡ lit_in order.ordered.table i j

-- a total order of the chosen steps, by their places, that agrees with the recorded order
pub record AgreesWith (log : Log) (chosen : List Pos) (total : ℕ → ℕ → Bool) : Type 0 where
  pub strict : IsStrict total
  pub all : (i j : ℕ) → i < length chosen → j < length chosen → i ≢ j → (total i j ≡ true) ⊎ (total j i ≡ true)
  pub agrees : (i j : ℕ) → i < length chosen → j < length chosen → RecordedOrder log (position chosen i) (position chosen j) → total i j ≡ true

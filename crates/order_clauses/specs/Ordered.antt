-- A table with its variables and all its clauses.
use Rattle.std.specs.Prelude.{◌≡◌, ℕ, ◌+◌, Bool, List, length}
use Rattle.clause_store.specs.Formula.{Formula, Grows}
use Rattle.order_clauses.specs.declared.ordered.OrderedTable.{OrderedTable}
use Rattle.order_clauses.specs.Orders.{IsStrictBelow}
use Rattle.order_clauses.specs.Tables.{IsTable, IsOrders}
use Rattle.order_clauses.specs.Grid.{recorded_in, lit_in, IsSquare, KnowsTable}

-- The table of so many places, its variables the first new ones; the formula only grows. Where what is recorded is a
-- strict order, the assignments of the new clauses are the total orders that keep it.
pub record IsOrdered (places : ℕ) (cells : List Bool) (old new : Formula) (ordered : OrderedTable) : Type 0 where
  pub first : ordered.first ≡ old.vars
  pub count : ordered.table.count ≡ places
  pub recorded : ordered.table.recorded ≡ cells
  pub square : IsSquare ordered.table
  pub table : IsTable ordered.table.count (recorded_in ordered.table) (lit_in ordered.table) old.vars ordered.table.pairs
  pub grows : Grows old new
  pub vars : new.vars ≡ old.vars + length ordered.table.pairs
  pub known : KnowsTable new.vars ordered.table
  pub orders : IsStrictBelow ordered.table.count (recorded_in ordered.table)
      → IsOrders ordered.table.count (recorded_in ordered.table) (lit_in ordered.table) old new

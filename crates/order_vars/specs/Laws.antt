-- Laws of the literals of chosen steps.
use Rattle.std.specs.Prelude.{◌≡◌, ◌≢◌, ℕ, ◌<◌, ◌+◌, Bool, true, None, List, length}
use Rattle.odr_log.specs.declared.log.Log.{Log}
use Rattle.odr_log.specs.declared.log.Pos.{Pos}
use Rattle.clause_store.specs.Literals.{Assignment, Satisfies}
use Rattle.clause_store.specs.UnitRule.{Partial, AllAtRest}
use Rattle.clause_store.specs.Formula.{Formula}
use Rattle.order_clauses.specs.declared.ordered.OrderedTable.{OrderedTable}
use Rattle.order_clauses.specs.Literals.{is_known, spelled}
use Rattle.order_clauses.specs.Tables.{pair_at, SpellsOrder}
use Rattle.order_clauses.specs.Grid.{lit_in}
use Rattle.order_vars.specs.Chosen.{IsOrderVars, AgreesWith}

-- an assignment makes the literals of different places say which stands before which
abbrev pub Spells : List Pos → OrderedTable → Assignment → (ℕ → ℕ → Bool) → Type 0
Spells chosen ordered w total =
    (i j : ℕ) → i < length chosen → j < length chosen → i ≢ j → spelled w (lit_in ordered.table i j) ≡ total i j

-- whatever literals have values, the order has those that are true
abbrev pub Keeps : List Pos → OrderedTable → Partial → (ℕ → ℕ → Bool) → Type 0
Keeps chosen ordered v total =
    (i j : ℕ) → i < length chosen → j < length chosen → i ≢ j → is_known v (lit_in ordered.table i j) ≡ true → total i j ≡ true

-- Each assignment that satisfies the clauses spells a total order that agrees with the recorded order.
abbrev pub AssignmentsAreOrders : Type 0
AssignmentsAreOrders =
    (log : Log) (chosen : List Pos) (ordered : OrderedTable) (old new : Formula) → IsOrderVars log chosen ordered old new
    → (w : Assignment) → Satisfies w new.clauses
    → (total : ℕ → ℕ → Bool) × AgreesWith log chosen total × Spells chosen ordered w total

-- Each such order is spelled by one that agrees with any given one on the older variables.
abbrev pub OrdersAreAssignments : Type 0
OrdersAreAssignments =
    (log : Log) (chosen : List Pos) (ordered : OrderedTable) (old new : Formula) → IsOrderVars log chosen ordered old new
    → (w : Assignment) → Satisfies w old.clauses → (total : ℕ → ℕ → Bool) → AgreesWith log chosen total
    → SpellsOrder (length chosen) (lit_in ordered.table) total old.vars w new

-- Where the unit rule has nothing to do, some total order that agrees has all literals that are true.
abbrev pub RestIsAnOrder : Type 0
RestIsAnOrder =
    (log : Log) (chosen : List Pos) (ordered : OrderedTable) (old new : Formula) → IsOrderVars log chosen ordered old new
    → (v : Partial) → AllAtRest v new.clauses
    → (total : ℕ → ℕ → Bool) × AgreesWith log chosen total × Keeps chosen ordered v total

-- And each variable that is open there goes both ways in such an order.
abbrev pub OpenPairsGoBothWays : Type 0
OpenPairsGoBothWays =
    (log : Log) (chosen : List Pos) (ordered : OrderedTable) (old new : Formula) → IsOrderVars log chosen ordered old new
    → (v : Partial) → AllAtRest v new.clauses → (k : ℕ) → k < length ordered.table.pairs → v (old.vars + k) ≡ None → (up : Bool)
    → (total : ℕ → ℕ → Bool) × AgreesWith log chosen total × Keeps chosen ordered v total
    × (total (pair_at ordered.table.pairs k).first (pair_at ordered.table.pairs k).second ≡ up)

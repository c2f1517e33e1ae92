-- Laws of order clauses.
use Rattle.std.specs.Prelude.{◌≡◌, ◌≢◌, ℕ, ◌<◌, ◌+◌, Bool, true, false, None, List, length}
use Rattle.clause_store.specs.UnitRule.{Partial, AllAtRest}
use Rattle.clause_store.specs.Formula.{Formula, AllKnown}
use Rattle.order_clauses.specs.declared.order_lit.OrderLit.{OrderLit}
use Rattle.order_clauses.specs.declared.pair.Pair.{Pair}
use Rattle.order_clauses.specs.Literals.{known_before}
use Rattle.order_clauses.specs.Orders.{IsStrict, IsStrictBelow, IsTotalAbove}
use Rattle.order_clauses.specs.Tables.{pair_at, IsTable, IsOrders}
use Rattle.order_clauses.specs.Clauses.{Adds, OrderClause}

-- A strict order extends to one that is total below n and has a pair that isn't in it the other way round.
abbrev pub EachOrderExtends : Type 0
EachOrderExtends =
    (n : ℕ) (lt : ℕ → ℕ → Bool) → IsStrict lt → (a b : ℕ) → a ≢ b → lt b a ≡ false
    → (total : ℕ → ℕ → Bool) × IsTotalAbove n lt total × (total a b ≡ true)

-- A variable for each pair of a table, and then the order clauses: their assignments are the total orders.
abbrev pub TablesAreOrders : Type 0
TablesAreOrders =
    (n : ℕ) (recorded : ℕ → ℕ → Bool) (lit : ℕ → ℕ → OrderLit) (pairs : List Pair) (old between new : Formula)
    → AllKnown old → IsStrictBelow n recorded → IsTable n recorded lit old.vars pairs
    → between.vars ≡ old.vars + length pairs → between.clauses ≡ old.clauses → Adds between new (OrderClause n recorded lit)
    → IsOrders n recorded lit old new

-- Where the unit rule has nothing to do and a pair's variable is open, the pair stands either way in a total order that
-- keeps all that is known.
abbrev pub OpenGoesBothWays : Type 0
OpenGoesBothWays =
    (n : ℕ) (recorded : ℕ → ℕ → Bool) (lit : ℕ → ℕ → OrderLit) (first : ℕ) (pairs : List Pair) (old new : Formula)
    → IsTable n recorded lit first pairs → IsOrders n recorded lit old new
    → (v : Partial) → AllAtRest v new.clauses → (k : ℕ) → k < length pairs → v (first + k) ≡ None → (up : Bool)
    → (total : ℕ → ℕ → Bool) × IsTotalAbove n (known_before n lit v) total × (total (pair_at pairs k).first (pair_at pairs k).second ≡ up)

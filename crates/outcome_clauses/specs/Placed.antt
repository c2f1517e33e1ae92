-- A store-conditional whose order is that of places in a table.
use Rattle.std.specs.Prelude.{◌≡◌, ◌↔◌, ℕ, ◌<◌, Bool, true, All, map}
use Rattle.clause_store.specs.Literals.{Assignment}
use Rattle.clause_store.specs.UnitRule.{Partial}
use Rattle.order_clauses.specs.declared.table.Table.{Table}
use Rattle.order_clauses.specs.Literals.{spelled, all_given, known_before}
use Rattle.order_clauses.specs.Grid.{lit_in, IsKnownOrder, IsSquare, KnowsTable}
use Rattle.source_clauses.specs.Conditions.{IsDecided}
use Rattle.outcome_clauses.specs.declared.store_conditional.Ender.{Ender}
use Rattle.outcome_clauses.specs.declared.store_conditional.StoreConditional.{StoreConditional}
use Rattle.outcome_clauses.specs.declared.placed.PlacedEnder.{PlacedEnder}
use Rattle.outcome_clauses.specs.declared.placed.PlacedConditional.{PlacedConditional}
use Rattle.outcome_clauses.specs.Succeeds.{Succeeds}
use Rattle.outcome_clauses.specs.Contract.{HasValue, IsPlaced}

-- a write, and a store-conditional, by what the table says of their places

abbrev pub ender_in : Table → PlacedConditional → PlacedEnder → Ender
ender_in table placed ender = record { after = lit_in table placed.link ender.at; before = lit_in table ender.at placed.at; hit = ender.hit }

abbrev pub conditional_in : Table → PlacedConditional → StoreConditional
conditional_in table placed = record { same = placed.same; enders = map (ender_in table placed) placed.enders; outcome = placed.outcome }

-- all places are in the table
pub record IsWithin (table : Table) (placed : PlacedConditional) : Type 0 where
  pub square : IsSquare table
  pub link : placed.link < table.count
  pub at : placed.at < table.count
  pub enders : All (λ ender. ender.at < table.count) placed.enders

pub record KnowsPlaced (vars : ℕ) (table : Table) (placed : PlacedConditional) : Type 0 where
  pub within : IsWithin table placed
  pub known : KnowsTable vars table
  pub same : IsKnownOrder vars placed.same
  pub hits : All (λ ender. IsKnownOrder vars ender.hit) placed.enders
  pub outcome : placed.outcome.var < vars

-- in the order that an assignment spells, one place stands before another
abbrev pub StandsBefore : Assignment → Table → ℕ → ℕ → Type 0
StandsBefore w table first second = known_before table.count (lit_in table) (all_given w) first second ≡ true

-- in this order a write stands between the load-reserved and the store-conditional; it takes place and touches the reserved word
pub record EndsInOrder (w : Assignment) (table : Table) (placed : PlacedConditional) (ender : PlacedEnder) : Type 0 where
  pub after : StandsBefore w table placed.link ender.at
  pub before : StandsBefore w table ender.at placed.at
  pub hits : spelled w ender.hit ≡ true

-- the address is that of the load-reserved, and no write ends the reservation
pub record SucceedsInOrder (w : Assignment) (table : Table) (placed : PlacedConditional) : Type 0 where
  pub same : spelled w placed.same ≡ true
  pub kept : All (λ ender. EndsInOrder w table placed ender → ⊥) placed.enders

-- What the table says of the places is the order that an assignment spells.
abbrev pub PlacesDecide : Type 0
PlacesDecide =
    (w : Assignment) (table : Table) (placed : PlacedConditional) → IsWithin table placed
    → Succeeds w (conditional_in table placed) ↔ SucceedsInOrder w table placed

-- The values of some variables say how a write stands to both in some order, and, where it stands between them, whether it hits.
pub record IsInOrder (v : Partial) (table : Table) (placed : PlacedConditional) (lt : ℕ → ℕ → Bool) (ender : PlacedEnder) : Type 0 where
  pub after : IsDecided v (lit_in table placed.link ender.at) (lt placed.link ender.at)
  pub before : IsDecided v (lit_in table ender.at placed.at) (lt ender.at placed.at)
  pub hit : lt placed.link ender.at ≡ true → lt ender.at placed.at ≡ true → HasValue v ender.hit

-- An order of the places, with the hits of the writes between, is all that the unit rule asks for.
abbrev pub OrdersPlace : Type 0
OrdersPlace =
    (v : Partial) (table : Table) (placed : PlacedConditional) (lt : ℕ → ℕ → Bool) → All (IsInOrder v table placed lt) placed.enders
    → All (IsPlaced v) (conditional_in table placed).enders

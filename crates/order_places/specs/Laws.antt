-- Laws of the places of accesses.
use Rattle.std.specs.Prelude.{◌≡◌, ℕ, ◌<◌, ◌+◌, Bool, List, length, Option, IsSome}
use Rattle.elf_image.specs.Layout.{Layout}
use Rattle.odr_log.specs.declared.log.Log.{Log}
use Rattle.odr_log.specs.declared.log.Pos.{Pos}
use Rattle.rv_model.specs.Walk.{Walk, IsWalk}
use Rattle.rv_model.specs.CallsFit.{CallsFit}
use Rattle.clause_store.specs.Literals.{Assignment, Satisfies}
use Rattle.clause_store.specs.UnitRule.{Partial, AllAtRest}
use Rattle.clause_store.specs.Formula.{Extension, Formula}
use Rattle.order_clauses.specs.declared.ordered.OrderedTable.{OrderedTable}
use Rattle.order_clauses.specs.Grid.{IsSquare, KnowsTable}
use Rattle.thread_terms.specs.declared.access.Access.{Access}
use Rattle.formula_parts.specs.Order.{ArePlaces, DecidesOrder, IsOrder, SpellsOrder}
use Rattle.order_places.specs.Placed.{AreChosen, ArePlacesOf, IsPlaced, places_in}

-- Each place of the table of chosen steps is that of one access.
abbrev pub PlacesAreOfAccesses : Type 0
PlacesAreOfAccesses = (accesses : List Access) (chosen : List Pos) (at : List (Option ℕ)) (ordered : OrderedTable) (vars : ℕ)
    → AreChosen accesses chosen → ArePlacesOf chosen accesses at
    → IsSquare ordered.table → ordered.table.count ≡ length chosen → KnowsTable vars ordered.table
    → (access : ℕ → ℕ) × ArePlaces (length accesses) vars (places_in ordered at access)

-- Each assignment that satisfies the clauses spells a total order of all accesses that agrees with the recorded order.
abbrev pub AssignmentsSpellOrders : Type 0
AssignmentsSpellOrders = (image : Layout) (log : Log) (walk : Walk) (accesses : List Access) (chosen : List Pos) (at : List (Option ℕ))
    (ordered : OrderedTable) (access : ℕ → ℕ) (old new : Formula)
    → IsWalk image log walk → CallsFit log → IsPlaced log accesses chosen at ordered old new
    → (w : Assignment) → Satisfies w new.clauses
    → (lt : ℕ → ℕ → Bool) × IsOrder log accesses lt × SpellsOrder w (places_in ordered at access) lt

-- Each such order is spelled by an assignment that satisfies them, whatever the older variables are.
abbrev pub OrdersAreSpelled : Type 0
OrdersAreSpelled = (log : Log) (accesses : List Access) (chosen : List Pos) (at : List (Option ℕ))
    (ordered : OrderedTable) (access : ℕ → ℕ) (old new : Formula)
    → IsPlaced log accesses chosen at ordered old new
    → (w : Assignment) → Satisfies w old.clauses → (lt : ℕ → ℕ → Bool) → IsOrder log accesses lt
    → (e : Extension old.vars w new.clauses) × SpellsOrder e.extended (places_in ordered at access) lt

-- Where the unit rule has nothing to do and the variables of the order have values, they decide such an order.
abbrev pub ValuesDecideOrders : Type 0
ValuesDecideOrders = (image : Layout) (log : Log) (walk : Walk) (accesses : List Access) (chosen : List Pos) (at : List (Option ℕ))
    (ordered : OrderedTable) (access : ℕ → ℕ) (old new : Formula)
    → IsWalk image log walk → CallsFit log → IsPlaced log accesses chosen at ordered old new
    → (v : Partial) → AllAtRest v new.clauses → ((k : ℕ) → k < length ordered.table.pairs → IsSome (v (old.vars + k)))
    → (lt : ℕ → ℕ → Bool) × IsOrder log accesses lt × DecidesOrder v (places_in ordered at access) lt

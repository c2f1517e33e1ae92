-- The places of accesses in the table of chosen steps.
use Rattle.std.specs.Prelude.{◌≡◌, ◌≢◌, ℕ, ◌<◌, List, length, get_or, map, Option, Some, None, is_some, unwrap_or, All, AllPairs, Contains}
use Rattle.odr_log.specs.declared.log.Log.{Log}
use Rattle.odr_log.specs.declared.log.Pos.{Pos}
use Rattle.clause_store.specs.Formula.{Formula}
use Rattle.order_clauses.specs.declared.ordered.OrderedTable.{OrderedTable}
use Rattle.order_vars.specs.Chosen.{IsFirstPlace, IsOrderVars}
use Rattle.guided_walk.specs.Orders.{Distinct, In}
use Rattle.thread_terms.specs.declared.access.Access.{Access}
use Rattle.path_exec.specs.Paths.{position}
use Rattle.term_sources.specs.Sees.{access_at}
use Rattle.formula_parts.specs.Order.{Places}

-- No two accesses are of one step, each chosen step is that of an access, and none is chosen twice.
pub record AreChosen (accesses : List Access) (chosen : List Pos) : Type 0 where
  pub distinct : Distinct (map position accesses)
  pub listed : All (λ (p : Pos). In p (map position accesses)) chosen
  pub once : AllPairs (λ (p q : Pos). p ≢ q) chosen

-- the first place of a step among the chosen, none where it isn't chosen
abbrev pub IsPlaceOf : List Pos → Pos → Option ℕ → Type 0
IsPlaceOf chosen p (Some place) = IsFirstPlace chosen p place
IsPlaceOf chosen p None = Contains chosen p → ⊥

-- what a list has for the access with a number
abbrev pub place_at : List (Option ℕ) → ℕ → Option ℕ
place_at at x = get_or at x None

-- the list has the place of each access
pub record ArePlacesOf (chosen : List Pos) (accesses : List Access) (at : List (Option ℕ)) : Type 0 where
  pub count : length at ≡ length accesses
  pub each : (x : ℕ) → x < length accesses → IsPlaceOf chosen (access_at accesses x).pos (place_at at x)

-- the places that a list has in a table, with an access at each place
abbrev pub places_in : OrderedTable → List (Option ℕ) → (ℕ → ℕ) → Places
places_in ordered at access = record {
  table = ordered.table;
  chosen = λ (x : ℕ). is_some (place_at at x);
  place = λ (x : ℕ). unwrap_or (place_at at x) 0;
  access = access;
}

-- Literals say the order of the chosen steps of some accesses, and a list has the accesses' places.
pub record IsPlaced (log : Log) (accesses : List Access) (chosen : List Pos) (at : List (Option ℕ)) (ordered : OrderedTable) (old new : Formula) : Type 0 where
  pub are_chosen : AreChosen accesses chosen
  pub places : ArePlacesOf chosen accesses at
  pub literals : IsOrderVars log chosen ordered old new

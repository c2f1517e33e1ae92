-- Accesses by their places in the table of chosen steps.
use Rattle.std.specs.Prelude.{◌≡◌, ◌≢◌, ◌⊎◌, ℕ, ◌<◌, ◌≤◌, Bool, true, false, List, length, map, get_or, Option, Some, None, is_some, unwrap_or, Contains, refl}
use Rattle.std.proofs.Common.{sym, ◌∙◌, ap, subst, inl, inr, arith}
use Rattle.std.proofs.lemmas.Bool.{cases_lt, cases_order, false≢true}
use Rattle.std.proofs.lemmas.List.{get_or_default, get_or_past}
use Rattle.odr_log.specs.declared.log.Log.{Log}
use Rattle.odr_log.specs.declared.log.Pos.{Pos}
use Rattle.rv_model.specs.RecordedOrder.{RecordedOrder}
use Rattle.clause_store.specs.Literals.{Assignment, Satisfies}
use Rattle.clause_store.specs.Formula.{Extension, Formula}
use Rattle.order_clauses.specs.declared.ordered.OrderedTable.{OrderedTable}
use Rattle.order_clauses.specs.Grid.{lit_in}
use Rattle.order_clauses.specs.Literals.{spelled}
use Rattle.order_clauses.specs.Orders.{IsStrict}
use Rattle.order_clauses.specs.Tables.{SpellsOrder as SpellsPlaces}
use Rattle.order_vars.specs.Chosen.{AgreesWith, IsFirstPlace}
use Rattle.order_vars.specs.Chosen.{position as chosen_step}
use Rattle.order_vars.proofs.Agreeing.{orders_assignments}
use Rattle.thread_terms.specs.declared.access.Access.{Access}
use Rattle.path_exec.specs.Paths.{position}
use Rattle.term_sources.specs.Sees.{access_at}
use Rattle.term_sources.proofs.Listed.{in_pos, one_number}
use Rattle.formula_parts.specs.Order.{ArePlaces, IsAt, IsOrder, SpellsOrder}
use Rattle.order_places.specs.Placed.{AreChosen, ArePlacesOf, IsPlaceOf, IsPlaced, place_at, places_in}
use Rattle.order_places.specs.Laws.{OrdersAreSpelled, PlacesAreOfAccesses}

abbrev no_step : Pos
no_step = record { thread = 0; step = 0 }

-- accesses, of which some are chosen, and their places
pub record Scene : Type 0 where
  pub accesses : List Access
  pub chosen : List Pos
  pub at : List (Option ℕ)
  pub are : AreChosen accesses chosen
  pub places : ArePlacesOf chosen accesses at

abbrev pub count : Scene → ℕ
count s = length s.accesses

abbrev pub step_of : Scene → ℕ → Pos
step_of s x = (access_at s.accesses x).pos

abbrev pub is_chosen : Scene → ℕ → Bool
is_chosen s x = is_some (place_at s.at x)

abbrev pub place : Scene → ℕ → ℕ
place s x = unwrap_or (place_at s.at x) 0

-- ---- an access that has a place

pub record HasPlace (s : Scene) (x : ℕ) : Type 0 where
  pub there : x < count s
  pub first : IsFirstPlace s.chosen (step_of s x) (place s x)

place_by : (chosen : List Pos) (p : Pos) (o : Option ℕ) → IsPlaceOf chosen p o → is_some o ≡ true → IsFirstPlace chosen p (unwrap_or o 0)
place_by chosen p None is e = absurd (false≢true e)
place_by chosen p (Some k) is e = is

chosen_there : (s : Scene) (x : ℕ) → is_chosen s x ≡ true → x < count s
chosen_there s x e = elim (cases_lt x (count s)) [
  | inl within ↦ within
  | inr past ↦
      let long : length s.at ≤ x = omega (arith, past, s.places.count) in
      absurd (false≢true (sym (ap (λ (o : Option ℕ). is_some o) (get_or_past s.at x None long)) ∙ e))
]

pub has_place : (s : Scene) (x : ℕ) → is_chosen s x ≡ true → HasPlace s x
has_place s x e =
    let there : x < count s = chosen_there s x e in
    record { there = there; first = place_by s.chosen (step_of s x) (place_at s.at x) (s.places.each x there) e }

pub one_access : (s : Scene) (x y : ℕ) → is_chosen s x ≡ true → is_chosen s y ≡ true → place s x ≡ place s y → x ≡ y
one_access s x y x_in y_in e =
    let first : HasPlace s x = has_place s x x_in in
    let second : HasPlace s y = has_place s y y_in in
    one_number s.accesses x y s.are.distinct first.there second.there
    (sym first.first.is ∙ ap (λ (k : ℕ). chosen_step s.chosen k) e ∙ second.first.is)

-- ---- the access at a place

-- an access of a chosen step
abbrev Of : Scene → ℕ → Type 0
Of s i = (x : ℕ) × (x < count s) × (step_of s x ≡ chosen_step s.chosen i)

found : (s : Scene) (i : ℕ) → i < length s.chosen → Of s i
found s i i_in = in_pos s.accesses (chosen_step s.chosen i) (s.are.listed i no_step i_in)

access_by : (s : Scene) (i : ℕ) → (i < length s.chosen) ⊎ (length s.chosen ≤ i) → ℕ
access_by s i (inl i_in) = (found s i i_in).0
access_by s i (inr past) = 0

pub access_of : Scene → ℕ → ℕ
access_of s i = access_by s i (cases_lt i (length s.chosen))

one_place : (s : Scene) (i j : ℕ) → i < length s.chosen → j < length s.chosen → chosen_step s.chosen i ≡ chosen_step s.chosen j → i ≡ j
one_place s i j i_in j_in e = elim (cases_order i j) [
  | inl same ↦ same
  | inr (inl less) ↦ absurd (s.are.once i j no_step less j_in e)
  | inr (inr more) ↦ absurd (s.are.once j i no_step more i_in (sym e))
]

pub record IsThere (s : Scene) (i x : ℕ) : Type 0 where
  pub there : x < count s
  pub chosen : is_chosen s x ≡ true
  pub place : place s x ≡ i

is_there_by : (s : Scene) (i : ℕ) (p : Pos) (o : Option ℕ) → i < length s.chosen → chosen_step s.chosen i ≡ p → IsPlaceOf s.chosen p o
    → (is_some o ≡ true) × (unwrap_or o 0 ≡ i)
is_there_by s i p None i_in e missing = absurd (missing (i, i_in, get_or_default s.chosen i p no_step i_in ∙ e))
is_there_by s i p (Some k) i_in e first = (refl, one_place s k i first.within i_in (first.is ∙ sym e))

found_there : (s : Scene) (i : ℕ) → i < length s.chosen → (of : Of s i) → IsThere s i of.0
found_there s i i_in of =
    let told : (is_chosen s of.0 ≡ true) × (place s of.0 ≡ i) =
    is_there_by s i (step_of s of.0) (place_at s.at of.0) i_in (sym of.2) (s.places.each of.0 of.1) in
    record { there = of.1; chosen = told.0; place = told.1 }

there_by : (s : Scene) (i : ℕ) → i < length s.chosen → (c : (i < length s.chosen) ⊎ (length s.chosen ≤ i)) → IsThere s i (access_by s i c)
unfolding access_by
there_by s i i_in (inl within) = found_there s i within (found s i within)
there_by s i i_in (inr past) = absurd (omega (arith, i_in, past))

pub at_place : (s : Scene) (i : ℕ) → i < length s.chosen → IsThere s i (access_of s i)
unfolding access_of
at_place s i i_in = there_by s i i_in (cases_lt i (length s.chosen))

-- ---- the table has the places

pub places_of_accesses : PlacesAreOfAccesses
places_of_accesses accesses chosen at ordered vars are places square count known =
    let s : Scene = record { accesses = accesses; chosen = chosen; at = at; are = are; places = places } in (
      access_of s,
      record {
        square = square;
        known = known;
        within = λ (x : ℕ) (x_in : is_chosen s x ≡ true). subst (λ (n : ℕ). place s x < n) (sym count) (has_place s x x_in).first.within;
        own = one_access s;
        each = λ (i : ℕ) (i_in : i < ordered.table.count).
            let is : IsThere s i (access_of s i) = at_place s i (subst (λ (n : ℕ). i < n) count i_in) in
            record { there = is.there; chosen = is.chosen; place = is.place };
      },
    )

-- ---- an order of accesses, by their places

-- the access at the place of an access
pub access_back : (s : Scene) (x : ℕ) → is_chosen s x ≡ true → access_of s (place s x) ≡ x
access_back s x x_in =
    let is : IsThere s (place s x) (access_of s (place s x)) = at_place s (place s x) (has_place s x x_in).first.within in
    one_access s (access_of s (place s x)) x is.chosen x_in is.place

abbrev pub by_places : Scene → (ℕ → ℕ → Bool) → ℕ → ℕ → Bool
by_places s lt i j = lt (access_of s i) (access_of s j)

step_at : (s : Scene) (i : ℕ) → i < length s.chosen → step_of s (access_of s i) ≡ chosen_step s.chosen i
step_at s i i_in =
    let is : IsThere s i (access_of s i) = at_place s i i_in in
    sym (has_place s (access_of s i) is.chosen).first.is ∙ ap (λ (k : ℕ). chosen_step s.chosen k) is.place

apart_at : (s : Scene) (i j : ℕ) → i < length s.chosen → j < length s.chosen → i ≢ j → access_of s i ≢ access_of s j
apart_at s i j i_in j_in differ e =
    differ (sym (at_place s i i_in).place ∙ ap (λ (x : ℕ). place s x) e ∙ (at_place s j j_in).place)

agrees_by_places : (s : Scene) (log : Log) (lt : ℕ → ℕ → Bool) → IsOrder log s.accesses lt → AgreesWith log s.chosen (by_places s lt)
agrees_by_places s log lt order = record {
  strict = record {
    irreflexive = λ (i : ℕ). order.strict.irreflexive (access_of s i);
    transitive = λ (i j k : ℕ). order.strict.transitive (access_of s i) (access_of s j) (access_of s k);
  };
  all = λ (i j : ℕ) (i_in : i < length s.chosen) (j_in : j < length s.chosen) (differ : i ≢ j).
      order.total.total (access_of s i) (access_of s j) (at_place s i i_in).there (at_place s j j_in).there (apart_at s i j i_in j_in differ);
  agrees = λ (i j : ℕ) (i_in : i < length s.chosen) (j_in : j < length s.chosen) (r : RecordedOrder log (chosen_step s.chosen i) (chosen_step s.chosen j)).
      order.total.agrees (access_of s i) (access_of s j) (at_place s i i_in).there (at_place s j j_in).there
      (subst (λ (p : Pos). RecordedOrder log p (step_of s (access_of s j))) (sym (step_at s i i_in))
      (subst (RecordedOrder log (chosen_step s.chosen i)) (sym (step_at s j j_in)) r));
}

-- an order of places that says of accesses with places what another says of the accesses
pub apart_places : (s : Scene) (x y : ℕ) → is_chosen s x ≡ true → is_chosen s y ≡ true → x ≢ y → place s x ≢ place s y
apart_places s x y x_in y_in differ e = differ (one_access s x y x_in y_in e)

abbrev pub scene_of : (log : Log) (accesses : List Access) (chosen : List Pos) (at : List (Option ℕ)) (ordered : OrderedTable) (old new : Formula)
    → IsPlaced log accesses chosen at ordered old new → Scene
scene_of log accesses chosen at ordered old new is = record { accesses = accesses; chosen = chosen; at = at; are = is.are_chosen; places = is.places }

pub orders_spelled : OrdersAreSpelled
orders_spelled log accesses chosen at ordered access old new is w satisfied lt order =
    let s : Scene = scene_of log accesses chosen at ordered old new is in
    let e : SpellsPlaces (length chosen) (lit_in ordered.table) (by_places s lt) old.vars w new =
    orders_assignments log chosen ordered old new is.literals w satisfied (by_places s lt) (agrees_by_places s log lt order) in (
      record { extended = e.extended; agrees = e.agrees; satisfies = e.satisfies },
      λ (x y : ℕ) (x_in : is_chosen s x ≡ true) (y_in : is_chosen s y ≡ true) (differ : x ≢ y).
          e.spells (place s x) (place s y) (has_place s x x_in).first.within (has_place s y y_in).first.within (apart_places s x y x_in y_in differ)
          ∙ ap (λ (a : ℕ). lt a (access_of s (place s y))) (access_back s x x_in) ∙ ap (lt x) (access_back s y y_in),
    )

-- A formula that is whole stands for its image and log.
use Rattle.std.specs.Prelude.{◌≡◌, ◌≢◌, ◌⊎◌, ℕ, zero, suc, ◌+◌, ◌<◌, ◌^◌, Bool, true, false, not, List, [], ◌++◌, All, Contains, length, map, Option, Some, None}
use Rattle.std.proofs.Common.{sym, ◌∙◌, ap, subst, refl, inl, inr, arith}
use Rattle.std.proofs.lemmas.Bool.{false_from_ne_true, false≢true}
use Rattle.std.proofs.lemmas.Option.{none-some}
use Rattle.std.proofs.lemmas.List.Elements.{All-contains, All-nil}
use Rattle.elf_image.specs.Layout.{IsSound}
use Rattle.odr_log.specs.declared.log.Log.{Log}
use Rattle.odr_log.specs.declared.log.Pos.{Pos}
use Rattle.rv_model.specs.RecordedOrder.{Counted, RecordedOrder}
use Rattle.rv_model.specs.Run.{HasLog}
use Rattle.rv_model.specs.Walk.{Walk}
use Rattle.bv_terms.specs.declared.node.TermId.{TermId}
use Rattle.bv_terms.specs.Values.{value_at}
use Rattle.bv_terms.specs.Values.{Assignment as TermAssignment}
use Rattle.clause_store.specs.Formula.{Extension, Formula}
use Rattle.clause_store.specs.Literals.{Assignment, IsTrueUnder, Satisfies}
use Rattle.clause_store.proofs.Growth.{older_satisfied}
use Rattle.clause_store.proofs.Members.{All-from_contains, Contains-nil}
use Rattle.order_clauses.specs.declared.order_lit.OrderLit.TheVariants as order_lit
use Rattle.order_clauses.specs.declared.ordered.OrderedTable.{OrderedTable}
use Rattle.order_clauses.specs.declared.pair.Pair.{Pair}
use Rattle.order_clauses.specs.declared.table.Table.{Table}
use Rattle.order_clauses.specs.Grid.{lit_in, recorded_in}
use Rattle.order_clauses.specs.Literals.{spelled}
use Rattle.order_clauses.specs.Tables.{IsOpened, pair_at}
use Rattle.order_clauses.proofs.Counts.{lower-first}
use Rattle.bit_clauses.specs.declared.variables.Variable.{Variable}
use Rattle.bit_clauses.specs.Bits.{Agrees, TermExtension, first_of, run}
use Rattle.bit_clauses.specs.Spelled.{spelled as number_of_bits}
use Rattle.bit_clauses.proofs.Numbers.{spelled_small}
use Rattle.bit_clauses.proofs.Runs.{run_length}
use Rattle.encoder.specs.declared.encoder.Encoder.{Encoder}
use Rattle.guided_walk.specs.Law.{holds}
use Rattle.guided_walk.specs.Ordered.{IsExit}
use Rattle.guided_walk.specs.Orders.{In, Stands}
use Rattle.guided_walk.specs.Schedules.{places, places_after}
use Rattle.guided_walk.specs.Woven.{Woven, faulting}
use Rattle.guided_walk.proofs.Placing.{done_after, places-append}
use Rattle.walk_orders.specs.Total.{AreCounted, ArePairs, Decides, IsTotal}
use Rattle.walk_orders.proofs.Accesses.{accesses_go_on}
use Rattle.walk_orders.proofs.Decided.{logged_woven, woven_decides}
use Rattle.walk_orders.proofs.Lists.{stands_left}
use Rattle.walk_facts.specs.Givens.{ReadsBytes}
use Rattle.walk_facts.proofs.Accesses.{accesses_law}
use Rattle.schedule_extract.specs.Going.{NoRing}
use Rattle.schedule_extract.proofs.Totals.{total_woven}
use Rattle.thread_terms.specs.declared.access.Access.{Access}
use Rattle.order_vars.specs.Chosen.{position as chosen_step}
use Rattle.path_exec.specs.declared.paths.Paths.{Paths}
use Rattle.path_exec.specs.Paths.{position}
use Rattle.term_sources.specs.Explains.{AreTerms, ExplainedHasLog, Explains, HasFewSteps, LogIsExplained}
use Rattle.term_sources.specs.Law.{IsOrderBy}
use Rattle.term_sources.specs.Sees.{IsSeen, access_at}
use Rattle.term_sources.proofs.Listed.{in_pos, pos_in}
use Rattle.fixed_reads.proofs.Numbers.{number_is, number_of}
use Rattle.formula_parts.specs.Order.{IsAt, IsOrder, Places, Setting, SpellsOrder, lit_between}
use Rattle.formula_parts.specs.Facts.{Fact, Holds, Is, Reads, Succeeds}
use Rattle.formula_parts.specs.Parts.{SpellsAll}
use Rattle.order_places.specs.Placed.{places_in}
use Rattle.order_places.proofs.Merged.{assignments_spell}
use Rattle.order_places.proofs.Placed.{has_place, orders_spelled}
use Rattle.order_places.proofs.Placed.{Scene as PlaceScene}
use Rattle.stands_for.specs.Law.{HasOrder, WholeFormulasStand, order_of, steps_of}
use Rattle.stands_for.specs.Stands.{AgreesWith, IsShownBy, OrderVariables, StandsFor, decided}
use Rattle.stands_for.specs.Whole.{IsFactOf, IsWhole}
use Rattle.stands_for.proofs.Given.{listed_access}
use Rattle.stands_for.proofs.Orders.{order_by, order_in, order_is}
use Rattle.stands_for.proofs.Variables.{from_all, from_only, pair_is, pairs_all, pairs_only}

pub record Scene : Type 0 where
  pub setting : Setting
  pub walk : Walk
  pub paths : Paths
  pub base : Encoder
  pub last : Encoder
  pub facts : List Fact
  pub chosen : List Pos
  pub at : List (Option ℕ)
  pub ordered : OrderedTable
  pub access : ℕ → ℕ
  pub whole : IsWhole setting walk paths base last facts
  pub order : HasOrder setting chosen at ordered access base
  pub version : setting.log.version ≡ 1
  pub image_sound : IsSound setting.image
  pub bytes : ReadsBytes setting.log
  pub few : HasFewSteps setting.log
  pub terms : AreTerms setting.nodes setting.accesses
  -- what is known of symbolic paths
  pub explained_has_log : ExplainedHasLog
  pub log_is_explained : LogIsExplained

abbrev acc : Scene → ℕ → Access
acc s x = access_at s.setting.accesses x

abbrev count : Scene → ℕ
count s = length s.setting.accesses

abbrev steps : Scene → List Pos
steps s = map position s.setting.accesses

abbrev index : Scene → OrderVariables
index s = order_of s.chosen s.ordered

-- the variable of a pair
abbrev var : Scene → ℕ → ℕ
var s k = s.ordered.first + k

-- ---- accesses

accesses_counted : (s : Scene) → AreCounted s.setting.log (steps s)
accesses_counted s p there =
    let found = in_pos s.setting.accesses p there in
    subst (Counted s.setting.log) found.2 (listed_access s.setting s.walk s.paths s.base s.last s.facts s.whole found.0 found.1).counted

accesses_go : (s : Scene) (p : Pos) → In p (steps s) → IsExit s.setting.log p → ⊥
accesses_go s p there =
    let in_paths : In p (map position s.paths.accesses) = subst (λ (accesses : List Access). In p (map position accesses)) s.whole.accesses_are there in
    (accesses_go_on s.setting.image s.setting.log s.walk p s.whole.is_walk
    ((accesses_law s.setting.image s.setting.log s.walk s.whole.is_walk).lists.all p (s.whole.paths_are.lists.only p in_paths))).1

-- ---- places

abbrev place_scene : Scene → PlaceScene
place_scene s = record { accesses = s.setting.accesses; chosen = s.chosen; at = s.at; are = s.order.placed.are_chosen; places = s.order.placed.places }

abbrev is_chosen : Scene → ℕ → Bool
is_chosen s x = s.setting.places.chosen x

abbrev place : Scene → ℕ → ℕ
place s x = s.setting.places.place x

to_chosen : (s : Scene) (x : ℕ) → is_chosen s x ≡ true → (places_in s.ordered s.at s.access).chosen x ≡ true
to_chosen s x e = subst (λ (places : Places). places.chosen x ≡ true) s.order.places e

-- an access that has a place is there, and the chosen step there is its step
pub record IsPlacedAt (s : Scene) (x : ℕ) : Type 0 where
  pub there : x < count s
  pub within : place s x < length s.chosen
  pub is : chosen_step s.chosen (place s x) ≡ (acc s x).pos

placed_at : (s : Scene) (x : ℕ) → is_chosen s x ≡ true → IsPlacedAt s x
placed_at s x e =
    let has = has_place (place_scene s) x (to_chosen s x e) in
    let same : (places_in s.ordered s.at s.access).place x ≡ place s x = ap (λ (places : Places). places.place x) (sym s.order.places) in record {
      there = has.there;
      within = subst (λ (n : ℕ). n < length s.chosen) same has.first.within;
      is = subst (λ (n : ℕ). chosen_step s.chosen n ≡ (acc s x).pos) same has.first.is;
    }

table_is : (s : Scene) → s.setting.places.table ≡ s.ordered.table
table_is s = ap (λ (places : Places). places.table) s.order.places

-- the literal between two accesses is that of their places
literal_is : (s : Scene) (x y : ℕ) → lit_between s.setting.places x y ≡ lit_in s.ordered.table (place s x) (place s y)
literal_is s x y = ap (λ (table : Table). lit_in table (place s x) (place s y)) (table_is s)

-- ---- what a list of values of variables says of two accesses

-- the value of each pair's variable is as an order has the pair
abbrev FitsPairs : (s : Scene) → Assignment → (ℕ → ℕ → Bool) → Type 0
FitsPairs s w lt =
    (k x y : ℕ) → k < length s.ordered.table.pairs → is_chosen s x ≡ true → is_chosen s y ≡ true
    → (pair_at s.ordered.table.pairs k).first ≡ place s x → (pair_at s.ordered.table.pairs k).second ≡ place s y
    → (w (var s k) ≡ true → lt x y ≡ true) × (w (var s k) ≡ false → lt y x ≡ true)

not_back : (lt : ℕ → ℕ → Bool) (x y : ℕ) → ((z : ℕ) → lt z z ≡ false) → ((a b c : ℕ) → lt a b ≡ true → lt b c ≡ true → lt a c ≡ true) → lt y x ≡ true → lt x y ≡ false
not_back lt x y never on back = false_from_ne_true (lt x y) (λ (forth : lt x y ≡ true). false≢true (sym (never x) ∙ on x y x forth back))

recorded_first : (s : Scene) (lt : ℕ → ℕ → Bool) (x y : ℕ) → IsOrder s.setting.log s.setting.accesses lt → is_chosen s x ≡ true → is_chosen s y ≡ true
    → recorded_in s.ordered.table (place s x) (place s y) ≡ true → lt x y ≡ true
recorded_first s lt x y order x_in y_in e =
    let at_x = placed_at s x x_in in let at_y = placed_at s y y_in in
    let recorded : RecordedOrder s.setting.log (chosen_step s.chosen (place s x)) (chosen_step s.chosen (place s y)) =
    (s.order.placed.literals.recorded (place s x) (place s y) at_x.within at_y.within).0 e in
    order.total.agrees x y at_x.there at_y.there
    (subst (λ (p : Pos). RecordedOrder s.setting.log p (acc s y).pos) at_x.is (subst (RecordedOrder s.setting.log (chosen_step s.chosen (place s x))) at_y.is recorded))

first_is : (s : Scene) (k : ℕ) → 0 + k ≡ var s k
first_is s k = let none : s.ordered.first ≡ 0 = s.order.placed.literals.first in omega (arith, none)

positive_value : (w : Assignment) (n m : ℕ) → n ≡ m → spelled w (order_lit.Is (record { var = n; positive = true })) ≡ w m
positive_value w n m e = ap w e

negative_value : (w : Assignment) (n m : ℕ) → n ≡ m → spelled w (order_lit.Is (record { var = n; positive = false })) ≡ not (w m)
negative_value w n m e = ap (λ (k : ℕ). not (w k)) e

-- an open pair's literal forth and back
pub record OpenAt (s : Scene) (i j : ℕ) : Type 0 where
  pub k : ℕ
  pub less : k < length s.ordered.table.pairs
  pub first : (pair_at s.ordered.table.pairs k).first ≡ i
  pub second : (pair_at s.ordered.table.pairs k).second ≡ j
  pub forth : (w : Assignment) → spelled w (lit_in s.ordered.table i j) ≡ w (var s k)
  pub back : (w : Assignment) → spelled w (lit_in s.ordered.table j i) ≡ not (w (var s k))

open_at : (s : Scene) (i j : ℕ) → i < j → j < length s.chosen → recorded_in s.ordered.table i j ≡ false → recorded_in s.ordered.table j i ≡ false → OpenAt s i j
open_at s i j less within shut shut_back =
    let found = s.order.placed.literals.table.opened i j less within shut shut_back in
    let is = found.2 in record {
      k = found.0;
      less = found.1;
      first = ap (λ (pair : Pair). pair.first) is.pair;
      second = ap (λ (pair : Pair). pair.second) is.pair;
      forth = λ (w : Assignment). ap (spelled w) is.forth ∙ positive_value w (0 + found.0) (var s found.0) (first_is s found.0);
      back = λ (w : Assignment). ap (spelled w) is.back ∙ negative_value w (0 + found.0) (var s found.0) (first_is s found.0);
    }

by_value : (b : Bool) (lt_xy : Bool) → (b ≡ true → lt_xy ≡ true) → (b ≡ false → lt_xy ≡ false) → b ≡ lt_xy
by_value true lt_xy up shut = sym (up refl)
by_value false lt_xy up shut = sym (shut refl)

by_opposite : (b : Bool) (lt_xy : Bool) → (b ≡ true → lt_xy ≡ false) → (b ≡ false → lt_xy ≡ true) → not b ≡ lt_xy
by_opposite true lt_xy up shut = sym (up refl)
by_opposite false lt_xy up shut = sym (shut refl)

spelled_at : (s : Scene) (w : Assignment) (lt : ℕ → ℕ → Bool) (x y : ℕ) → IsOrder s.setting.log s.setting.accesses lt → FitsPairs s w lt
    → is_chosen s x ≡ true → is_chosen s y ≡ true → x ≢ y → spelled w (lit_in s.ordered.table (place s x) (place s y)) ≡ lt x y
spelled_at s w lt x y order fits x_in y_in differ =
    by_recorded (recorded_in table i j) (recorded_in table j i) refl refl
  where
    table : Table
    table = s.ordered.table

    i : ℕ
    i = place s x

    j : ℕ
    j = place s y

    apart : place s x ≢ place s y
    apart e = differ (s.whole.stands.places.own x y x_in y_in e)

    back_is : lt y x ≡ true → lt x y ≡ false
    back_is e = not_back lt x y order.strict.irreflexive order.strict.transitive e

    by_open : (place s x < place s y) ⊎ (place s y < place s x) → recorded_in s.ordered.table (place s x) (place s y) ≡ false
        → recorded_in s.ordered.table (place s y) (place s x) ≡ false → spelled w (lit_in s.ordered.table (place s x) (place s y)) ≡ lt x y
    by_open (inl less) shut shut_back =
        let opened = open_at s (place s x) (place s y) less (placed_at s y y_in).within shut shut_back in
        let says = fits opened.k x y opened.less x_in y_in opened.first opened.second in
        opened.forth w ∙ by_value (w (var s opened.k)) (lt x y) says.0 (λ (e : w (var s opened.k) ≡ false). back_is (says.1 e))
    by_open (inr more) shut shut_back =
        let opened = open_at s (place s y) (place s x) more (placed_at s x x_in).within shut_back shut in
        let says = fits opened.k y x opened.less y_in x_in opened.first opened.second in
        opened.back w ∙ by_opposite (w (var s opened.k)) (lt x y) (λ (e : w (var s opened.k) ≡ true). back_is (says.0 e)) says.1

    by_recorded : (forth back : Bool) → recorded_in s.ordered.table (place s x) (place s y) ≡ forth → recorded_in s.ordered.table (place s y) (place s x) ≡ back
        → spelled w (lit_in s.ordered.table (place s x) (place s y)) ≡ lt x y
    by_recorded true back e f =
        ap (spelled w) (s.order.placed.literals.table.always (place s x) (place s y) apart e) ∙ sym (recorded_first s lt x y order x_in y_in e)
    by_recorded false true e f =
        ap (spelled w) (s.order.placed.literals.table.never (place s x) (place s y) apart e f) ∙ sym (back_is (recorded_first s lt y x order y_in x_in f))
    by_recorded false false e f = by_open (lower-first (place s x) (place s y) apart) e f

order_spelled : (s : Scene) (w : Assignment) (lt : ℕ → ℕ → Bool) → IsOrder s.setting.log s.setting.accesses lt → FitsPairs s w lt → SpellsOrder w s.setting.places lt
order_spelled s w lt order fits x y x_in y_in differ = ap (spelled w) (literal_is s x y) ∙ spelled_at s w lt x y order fits x_in y_in differ

-- ---- the values of terms' variables by literals

term_value : (last : Encoder) (w : Assignment) (width : ℕ) → Option ℕ → ℕ
term_value last w width None = 0
term_value last w width (Some first) = number_of_bits w (run first width)

positive_power : (width : ℕ) → 0 < 2 ^ width
positive_power zero = omega arith
positive_power (suc width) = let less = positive_power width in omega (arith, less)

value_below : (last : Encoder) (w : Assignment) (width : ℕ) (first : Option ℕ) → term_value last w width first < 2 ^ width
unfolding term_value
value_below last w width None = positive_power width
value_below last w width (Some first) = subst (λ (n : ℕ). number_of_bits w (run first width) < 2 ^ n) (run_length first width) (spelled_small w (run first width))

abbrev told_by : Encoder → Assignment → TermAssignment
told_by last w = record {
  value_of = λ (width number : ℕ). term_value last w width (first_of last.blaster.variables width number);
  below = λ (width number : ℕ). value_below last w width (first_of last.blaster.variables width number);
}

told_agrees : (last : Encoder) (w : Assignment) → Agrees last.blaster (told_by last w) w
unfolding term_value
told_agrees last w width number first found = sym (ap (term_value last w width) found)

-- ---- from facts to what explains, and back

fact_holds : (s : Scene) (t : TermAssignment) (lt : ℕ → ℕ → Bool) (fact : Fact) → All (Holds s.setting t lt) s.facts → Contains s.facts fact → Holds s.setting t lt fact
fact_holds s t lt fact all there = All-contains (Holds s.setting t lt) s.facts fact all there

seen_of : (s : Scene) (t : TermAssignment) (lt : ℕ → ℕ → Bool) → All (Holds s.setting t lt) s.facts → (x : ℕ) → x < count s
    → IsSeen s.setting.image t s.setting.nodes s.setting.accesses lt x
seen_of s t lt all x there = record {
  bytes = λ (i : ℕ) (within : i < length (acc s x).reads). fact_holds s t lt (Reads x i) all (s.whole.all.reads x i there within);
  outcome = λ (lr : ℕ) (link : (acc s x).link ≡ Some lr). fact_holds s t lt (Succeeds x) all (s.whole.all.outcomes x lr there link) lr link;
}

explains : (s : Scene) (t : TermAssignment) (lt : ℕ → ℕ → Bool) → All (Holds s.setting t lt) s.facts → Explains s.setting.image s.setting.nodes s.paths lt t
explains s t lt all = record {
  meets = All-from_contains (λ (id : TermId). value_at t s.setting.nodes id.number ≡ 1) s.paths.constraints
      (λ (id : TermId) (there : Contains s.paths.constraints id). fact_holds s t lt (Is id.number) all (s.whole.all.constraints_are id there));
  seen = subst (λ (accesses : List Access). (x : ℕ) → x < length accesses → IsSeen s.setting.image t s.setting.nodes accesses lt x) s.whole.accesses_are (seen_of s t lt all);
}

holds_of : (s : Scene) (t : TermAssignment) (lt : ℕ → ℕ → Bool) → Explains s.setting.image s.setting.nodes s.paths lt t → (fact : Fact)
    → IsFactOf s.setting s.paths.constraints fact → Holds s.setting t lt fact
holds_of s t lt e (Reads x i) (there, within) =
    (subst (λ (accesses : List Access). (y : ℕ) → y < length accesses → IsSeen s.setting.image t s.setting.nodes accesses lt y) (sym s.whole.accesses_are) e.seen x there).bytes i within
holds_of s t lt e (Succeeds x) there =
    (subst (λ (accesses : List Access). (y : ℕ) → y < length accesses → IsSeen s.setting.image t s.setting.nodes accesses lt y) (sym s.whole.accesses_are) e.seen x there).outcome
holds_of s t lt e (Is term) of =
    subst (λ (n : ℕ). value_at t s.setting.nodes n ≡ 1) of.2 (All-contains (λ (k : TermId). value_at t s.setting.nodes k.number ≡ 1) s.paths.constraints of.0 e.meets of.1)

all_hold : (s : Scene) (t : TermAssignment) (lt : ℕ → ℕ → Bool) → Explains s.setting.image s.setting.nodes s.paths lt t → All (Holds s.setting t lt) s.facts
all_hold s t lt e =
    All-from_contains (Holds s.setting t lt) s.facts
    (λ (fact : Fact) (there : Contains s.facts fact). holds_of s t lt e fact (All-contains (IsFactOf s.setting s.paths.constraints) s.facts fact s.whole.all.only there))

order_by_paths : (s : Scene) (schedule : List ℕ) → IsOrderBy s.paths.accesses (places schedule) (order_in s.setting.accesses schedule)
order_by_paths s schedule =
    subst (λ (accesses : List Access). IsOrderBy accesses (places schedule) (order_in s.setting.accesses schedule)) s.whole.accesses_are (order_by s.setting.accesses schedule)

terms_of_paths : (s : Scene) → AreTerms s.setting.nodes s.paths.accesses
terms_of_paths s = subst (AreTerms s.setting.nodes) s.whole.accesses_are s.terms

-- ---- sound

-- what stands in a woven schedule's pairs stands in it
stands_up : (log : Log) (pairs : List (Pos × Pos)) (schedule : List ℕ) → (woven : Woven log pairs schedule) → (p q : Pos) → Stands (places woven.counted) p q → Stands (places schedule) p q
stands_up log pairs schedule woven p q stand =
    let tail : List Pos = places_after (done_after [] woven.counted) (faulting log.end) in
    let whole : places schedule ≡ places woven.counted ++ tail = ap places woven.whole ∙ places-append [] woven.counted (faulting log.end) in
    subst (λ (xs : List Pos). Stands xs p q) (sym whole) (stands_left p q (places woven.counted) tail stand)

woven_fits : (s : Scene) (w : Assignment) (schedule : List ℕ) → Woven s.setting.log (decided w (index s)) schedule → FitsPairs s w (order_in s.setting.accesses schedule)
woven_fits s w schedule woven k x y less x_in y_in first second =
    let at_x = placed_at s x x_in in let at_y = placed_at s y y_in in
    let pair : (index s).pair (var s k) ≡ Some ((acc s x).pos, (acc s y).pos) =
    pair_is s.chosen s.ordered k less
    ∙ ap (λ (i : ℕ). Some (chosen_step s.chosen i, chosen_step s.chosen (pair_at s.ordered.table.pairs k).second)) first
    ∙ ap (λ (j : ℕ). Some (chosen_step s.chosen (place s x), chosen_step s.chosen j)) second
    ∙ ap (λ (p : Pos). Some (p, chosen_step s.chosen (place s y))) at_x.is ∙ ap (λ (p : Pos). Some ((acc s x).pos, p)) at_y.is in
    let listed = from_all s.ordered.first (length s.ordered.table.pairs) k less in (
      λ (up : w (var s k) ≡ true).
          (order_by s.setting.accesses schedule x y at_x.there at_y.there).1
          (stands_up s.setting.log (decided w (index s)) schedule woven (acc s x).pos (acc s y).pos
          (woven.paired (acc s x).pos (acc s y).pos (pairs_all w (index s).pair (index s).first (acc s x).pos (acc s y).pos (var s k) listed (inl (pair, up))))),
      λ (down : w (var s k) ≡ false).
          (order_by s.setting.accesses schedule y x at_y.there at_x.there).1
          (stands_up s.setting.log (decided w (index s)) schedule woven (acc s y).pos (acc s x).pos
          (woven.paired (acc s y).pos (acc s x).pos (pairs_all w (index s).pair (index s).first (acc s y).pos (acc s x).pos (var s k) listed (inr (pair, down))))),
    )

sound : (s : Scene) (w : Assignment) (schedule : List ℕ) → Satisfies w s.last.clauses.clauses → Woven s.setting.log (decided w (index s)) schedule
    → HasLog s.setting.image s.setting.log schedule
sound s w schedule satisfies woven =
    let lt = order_in s.setting.accesses schedule in
    let order : IsOrder s.setting.log s.setting.accesses lt =
    order_is s.setting.log s.setting.accesses schedule s.order.placed.are_chosen.distinct
    (woven_decides s.setting.log (decided w (index s)) schedule (steps s) s.whole.fits woven (accesses_counted s)) in
    let t = told_by s.last w in
    let spells : SpellsAll s.setting s.last t w lt = record {
      spells = record { satisfies = satisfies; agrees = told_agrees s.last w };
      is_order = order;
      order = order_spelled s w lt order (woven_fits s w schedule woven);
    } in
    s.explained_has_log s.setting.image s.setting.log s.walk s.setting.nodes s.paths t lt (decided w (index s)) schedule s.version s.whole.is_walk s.whole.fits s.whole.paths_are
    (terms_of_paths s) woven (order_by_paths s schedule) (explains s t lt (s.whole.adds.sound w t lt spells))

-- ---- complete

nothing_decided : (schedule : List ℕ) (chosen : List Pos) → ArePairs chosen (Decides schedule) []
nothing_decided schedule chosen p q there = absurd (Contains-nil (p, q) there)

agrees_vacuous : (s : Scene) (t : TermAssignment) (w : Assignment) → Agrees s.base.blaster t w
agrees_vacuous s t w width number first found =
    absurd (none_found first (subst (λ (variables : List Variable). first_of variables width number ≡ Some first) s.order.no_variables found))
  where
    none_found : (n : ℕ) → None ≡ Some n → ⊥
    none_found n e = none-some n e

inside_some : (one two : Pos × Pos) → Some one ≡ Some two → one ≡ two
inside_some one two e = cc

same_pair : (one two : Pos × Pos) → Some one ≡ Some two → (one.0 ≡ two.0) × (one.1 ≡ two.1)
same_pair one two e =
    let same : one ≡ two = inside_some one two e in (ap (λ (x : Pos × Pos). x.0) same, ap (λ (x : Pos × Pos). x.1) same)

-- the steps of two accesses
abbrev steps_at : (s : Scene) → ℕ → ℕ → Pos × Pos
steps_at s a b = ((acc s a).pos, (acc s b).pos)

-- the accesses of a pair stand as an assignment has them
pub record IsPair (s : Scene) (k : ℕ) : Type 0 where
  pub a : ℕ
  pub b : ℕ
  pub there_a : a < count s
  pub there_b : b < count s
  pub is : steps_of s.chosen s.ordered k ≡ steps_at s a b
  pub value : (w : Assignment) (lt : ℕ → ℕ → Bool) → SpellsOrder w s.setting.places lt → w (var s k) ≡ lt a b
  pub differ : a ≢ b
  pub known : var s k < s.base.clauses.vars

pair_of : (s : Scene) (k : ℕ) → k < length s.ordered.table.pairs → IsPair s k
pair_of s k less =
    let opened : IsOpened (length s.chosen) (recorded_in s.ordered.table) (lit_in s.ordered.table) 0 s.ordered.table.pairs k (pair_at s.ordered.table.pairs k).first (pair_at s.ordered.table.pairs k).second =
    s.order.placed.literals.table.listed k less in
    let i = (pair_at s.ordered.table.pairs k).first in let j = (pair_at s.ordered.table.pairs k).second in
    let rising = opened.rising in let within = opened.within in
    let many : s.setting.places.table.count ≡ length s.chosen = ap (λ (table : Table). table.count) (table_is s) ∙ s.order.placed.literals.count in
    let at_a : IsAt (count s) s.setting.places i = s.whole.stands.places.each i (omega (arith, rising, within, many)) in
    let at_b : IsAt (count s) s.setting.places j = s.whole.stands.places.each j (omega (arith, within, many)) in
    let a = s.setting.places.access i in let b = s.setting.places.access j in
    let step_a : chosen_step s.chosen i ≡ (acc s a).pos = ap (chosen_step s.chosen) (sym at_a.place) ∙ (placed_at s a at_a.chosen).is in
    let step_b : chosen_step s.chosen j ≡ (acc s b).pos = ap (chosen_step s.chosen) (sym at_b.place) ∙ (placed_at s b at_b.chosen).is in
    let apart : a ≢ b = λ (e : a ≡ b). below_not_same i j rising (sym at_a.place ∙ ap s.setting.places.place e ∙ at_b.place) in record {
      a = a;
      b = b;
      there_a = at_a.there;
      there_b = at_b.there;
      is = ap (λ (e : Pos). (e, chosen_step s.chosen j)) step_a ∙ ap (λ (e : Pos). ((acc s a).pos, e)) step_b;
      value = λ (w : Assignment) (lt : ℕ → ℕ → Bool) (spells : SpellsOrder w s.setting.places lt).
          ap w (sym (first_is s k)) ∙ sym (ap (spelled w) opened.forth)
          ∙ ap (λ (n : ℕ). spelled w (lit_in s.ordered.table n j)) (sym at_a.place) ∙ ap (λ (n : ℕ). spelled w (lit_in s.ordered.table (place s a) n)) (sym at_b.place)
          ∙ sym (ap (spelled w) (literal_is s a b)) ∙ spells a b at_a.chosen at_b.chosen apart;
      differ = apart;
      known = subst (λ (n : ℕ). n < s.base.clauses.vars) (first_is s k)
          (s.whole.stands.places.known i j (omega (arith, rising, within, many)) (omega (arith, within, many)) (record { var = 0 + k; positive = true })
          (ap (λ (table : Table). lit_in table i j) (table_is s) ∙ opened.forth));
    }
  where
    below_not_same : (i j : ℕ) → i < j → i ≡ j → ⊥
    below_not_same i j less e = omega (arith, less, e)

-- the order variables have their values as the order does
agrees_by : (s : Scene) (w u : Assignment) (schedule : List ℕ) → SpellsOrder w s.setting.places (order_in s.setting.accesses schedule)
    → ((x : ℕ) → x < s.base.clauses.vars → u x ≡ w x) → AgreesWith u (index s) schedule
agrees_by s w u schedule spells same x p q there at =
    let is = from_only s.ordered.first (length s.ordered.table.pairs) x there in
    let pair = pair_of s is.0 is.1 in
    let found : (index s).pair x ≡ Some (steps_at s pair.a pair.b) = ap (index s).pair is.2 ∙ pair_is s.chosen s.ordered is.0 is.1 ∙ ap (λ (e : Pos × Pos). Some e) pair.is in
    let two : (p ≡ (acc s pair.a).pos) × (q ≡ (acc s pair.b).pos) = same_pair (p, q) (steps_at s pair.a pair.b) (sym at ∙ found) in
    let value : u x ≡ order_in s.setting.accesses schedule pair.a pair.b =
    ap u is.2 ∙ same (var s is.0) pair.known ∙ pair.value w (order_in s.setting.accesses schedule) spells in
    let iff = order_by s.setting.accesses schedule pair.a pair.b pair.there_a pair.there_b in (
      λ (up : u x ≡ true).
          subst (λ (e : Pos). Stands (places schedule) e q) (sym two.0) (subst (Stands (places schedule) (acc s pair.a).pos) (sym two.1) (iff.0 (sym value ∙ up))),
      λ (stand : Stands (places schedule) p q).
          value ∙ iff.1 (subst (λ (e : Pos). Stands (places schedule) e (acc s pair.b).pos) two.0 (subst (Stands (places schedule) p) two.1 stand)),
    )

complete : (s : Scene) (schedule : List ℕ) → HasLog s.setting.image s.setting.log schedule → IsShownBy s.last.clauses.clauses (index s) schedule
complete s schedule has =
    let lt = order_in s.setting.accesses schedule in
    let woven : Woven s.setting.log [] schedule =
    logged_woven s.setting.image s.setting.log s.walk schedule (steps s) [] s.whole.is_walk s.whole.fits has (accesses_counted s) (nothing_decided schedule (steps s)) in
    let order : IsOrder s.setting.log s.setting.accesses lt =
    order_is s.setting.log s.setting.accesses schedule s.order.placed.are_chosen.distinct
    (woven_decides s.setting.log [] schedule (steps s) s.whole.fits woven (accesses_counted s)) in
    let explained = s.log_is_explained s.setting.image s.setting.log s.walk s.setting.nodes s.paths lt schedule s.version s.image_sound s.bytes s.few s.whole.is_walk s.whole.fits
    s.whole.paths_are (terms_of_paths s) has (order_by_paths s schedule) in
    let t : TermAssignment = explained.0 in
    let nothing : Formula = record { vars = 0; clauses = [] } in
    let zeros : Assignment = λ (x : ℕ). false in
    let found = orders_spelled s.setting.log s.setting.accesses s.chosen s.at s.ordered s.access nothing s.base.clauses s.order.placed zeros (All-nil (IsTrueUnder zeros)) lt order in
    let e : Extension 0 zeros s.base.clauses.clauses = found.0 in
    let spelled_order : SpellsOrder e.extended s.setting.places lt = subst (λ (places : Places). SpellsOrder e.extended places lt) (sym s.order.places) found.1 in
    let spells : SpellsAll s.setting s.base t e.extended lt = record {
      spells = record { satisfies = e.satisfies; agrees = agrees_vacuous s t e.extended };
      is_order = order;
      order = spelled_order;
    } in
    let f : TermExtension s.last.blaster t s.base.clauses.vars e.extended s.last.clauses.clauses = s.whole.adds.extends e.extended t lt spells (all_hold s t lt explained.1) in record {
      assignment = f.extended;
      satisfies = f.satisfies;
      agrees = agrees_by s e.extended f.extended schedule spelled_order f.agrees;
    }

-- ---- no ring

abbrev before : Scene → (ℕ → ℕ → Bool) → Pos → Pos → Bool
before s lt p q = lt (number_of s.setting.accesses p) (number_of s.setting.accesses q)

pub record IsNumbered (s : Scene) (p : Pos) : Type 0 where
  pub x : ℕ
  pub there : x < count s
  pub is : (acc s x).pos ≡ p
  pub number : number_of s.setting.accesses p ≡ x

numbered : (s : Scene) (p : Pos) → In p (steps s) → IsNumbered s p
numbered s p there =
    let found = in_pos s.setting.accesses p there in record {
      x = found.0;
      there = found.1;
      is = found.2;
      number = ap (number_of s.setting.accesses) (sym found.2) ∙ number_is s.setting.accesses found.0 s.order.placed.are_chosen.distinct found.1;
    }

before_is : (s : Scene) (lt : ℕ → ℕ → Bool) (p q : Pos) (a : IsNumbered s p) (b : IsNumbered s q) → before s lt p q ≡ lt a.x b.x
before_is s lt p q a b = ap (λ (n : ℕ). lt n (number_of s.setting.accesses q)) a.number ∙ ap (lt a.x) b.number

total_of : (s : Scene) (lt : ℕ → ℕ → Bool) → IsOrder s.setting.log s.setting.accesses lt → IsTotal s.setting.log (steps s) (holds (before s lt))
total_of s lt order = record {
  transitive = λ (p q r : Pos) (i : In p (steps s)) (j : In q (steps s)) (k : In r (steps s)) (e : before s lt p q ≡ true) (f : before s lt q r ≡ true).
      order.strict.transitive (number_of s.setting.accesses p) (number_of s.setting.accesses q) (number_of s.setting.accesses r) e f;
  no_ring = λ (p : Pos) (i : In p (steps s)) (e : before s lt p p ≡ true). false≢true (sym (order.strict.irreflexive (number_of s.setting.accesses p)) ∙ e);
  total = λ (p q : Pos) (i : In p (steps s)) (j : In q (steps s)) (differ : p ≢ q).
      let a = numbered s p i in let b = numbered s q j in
      elim (order.total.total a.x b.x a.there b.there (λ (e : a.x ≡ b.x). differ (sym a.is ∙ ap (λ (n : ℕ). (acc s n).pos) e ∙ b.is))) [
        | inl up ↦ inl (before_is s lt p q a b ∙ up)
        | inr down ↦ inr (before_is s lt q p b a ∙ down)
      ];
  agrees = λ (p q : Pos) (i : In p (steps s)) (j : In q (steps s)) (recorded : RecordedOrder s.setting.log p q).
      let a = numbered s p i in let b = numbered s q j in
      before_is s lt p q a b
      ∙ order.total.agrees a.x b.x a.there b.there
      (subst (λ (e : Pos). RecordedOrder s.setting.log e (acc s b.x).pos) (sym a.is) (subst (RecordedOrder s.setting.log p) (sym b.is) recorded));
}

before_at : (s : Scene) (lt : ℕ → ℕ → Bool) (a b : ℕ) → a < count s → b < count s → before s lt (acc s a).pos (acc s b).pos ≡ lt a b
before_at s lt a b there_a there_b =
    ap (λ (n : ℕ). lt n (number_of s.setting.accesses (acc s b).pos)) (number_is s.setting.accesses a s.order.placed.are_chosen.distinct there_a)
    ∙ ap (lt a) (number_is s.setting.accesses b s.order.placed.are_chosen.distinct there_b)

other_way : (s : Scene) (lt : ℕ → ℕ → Bool) → IsOrder s.setting.log s.setting.accesses lt → (a b : ℕ) → a < count s → b < count s → a ≢ b → lt a b ≡ false → lt b a ≡ true
other_way s lt order a b there_a there_b differ shut = elim (order.total.total a b there_a there_b differ) [
  | inl up ↦ absurd (false≢true (sym shut ∙ up))
  | inr down ↦ down
]

decided_pairs : (s : Scene) (w : Assignment) (lt : ℕ → ℕ → Bool) → IsOrder s.setting.log s.setting.accesses lt → SpellsOrder w s.setting.places lt
    → ArePairs (steps s) (holds (before s lt)) (decided w (index s))
decided_pairs s w lt order spells p q there =
    let found = pairs_only w (index s).pair (index s).first p q there in
    let is = from_only s.ordered.first (length s.ordered.table.pairs) found.0 found.1 in
    let pair = pair_of s is.0 is.1 in
    let at : (index s).pair found.0 ≡ Some (steps_at s pair.a pair.b) =
    ap (index s).pair is.2 ∙ pair_is s.chosen s.ordered is.0 is.1 ∙ ap (λ (e : Pos × Pos). Some e) pair.is in
    let value : w found.0 ≡ lt pair.a pair.b = ap w is.2 ∙ pair.value w lt spells in
    let in_a = pos_in s.setting.accesses pair.a pair.there_a in let in_b = pos_in s.setting.accesses pair.b pair.there_b in
    elim found.2 [
      | inl up ↦
          let two : ((acc s pair.a).pos ≡ p) × ((acc s pair.b).pos ≡ q) = same_pair (steps_at s pair.a pair.b) (p, q) (sym at ∙ up.0) in (
            subst (λ (e : Pos). In e (steps s)) two.0 in_a,
            subst (λ (e : Pos). In e (steps s)) two.1 in_b,
            subst (λ (e : Pos). before s lt e q ≡ true) two.0 (subst (λ (e : Pos). before s lt (acc s pair.a).pos e ≡ true) two.1
                (before_at s lt pair.a pair.b pair.there_a pair.there_b ∙ sym value ∙ up.1)),
          )
      | inr down ↦
          let two : ((acc s pair.a).pos ≡ q) × ((acc s pair.b).pos ≡ p) = same_pair (steps_at s pair.a pair.b) (q, p) (sym at ∙ down.0) in (
            subst (λ (e : Pos). In e (steps s)) two.1 in_b,
            subst (λ (e : Pos). In e (steps s)) two.0 in_a,
            subst (λ (e : Pos). before s lt e q ≡ true) two.1 (subst (λ (e : Pos). before s lt (acc s pair.b).pos e ≡ true) two.0
                (before_at s lt pair.b pair.a pair.there_b pair.there_a ∙ other_way s lt order pair.a pair.b pair.there_a pair.there_b pair.differ (sym value ∙ down.1))),
          )
    ]

no_ring_decided : (s : Scene) (w : Assignment) → Satisfies w s.last.clauses.clauses → NoRing s.setting.log (decided w (index s))
no_ring_decided s w satisfies =
    let nothing : Formula = record { vars = 0; clauses = [] } in
    let found = assignments_spell s.setting.image s.setting.log s.walk s.setting.accesses s.chosen s.at s.ordered s.access nothing s.base.clauses s.whole.is_walk s.whole.fits
    s.order.placed w (older_satisfied s.base.clauses s.last.clauses w s.whole.adds.keeps.grows satisfies) in
    let lt : ℕ → ℕ → Bool = found.0 in
    let order : IsOrder s.setting.log s.setting.accesses lt = found.1 in
    let spells : SpellsOrder w s.setting.places lt = subst (λ (places : Places). SpellsOrder w places lt) (sym s.order.places) found.2 in
    (total_woven s.setting.image s.setting.log s.walk (steps s) (before s lt) (decided w (index s)) s.whole.is_walk s.whole.fits (accesses_counted s) (accesses_go s)
    (total_of s lt order) (decided_pairs s w lt order spells)).no_ring

stands : (s : Scene) → StandsFor s.setting.image s.setting.log s.last.clauses.clauses (index s)
stands s = record { no_ring = no_ring_decided s; sound = sound s; complete = complete s }

pub formulas_stand : ExplainedHasLog → LogIsExplained → WholeFormulasStand
formulas_stand explained_has_log log_is_explained setting walk paths base last facts chosen at ordered access whole order version image_sound bytes few terms = stands (record {
  setting = setting;
  walk = walk;
  paths = paths;
  base = base;
  last = last;
  facts = facts;
  chosen = chosen;
  at = at;
  ordered = ordered;
  access = access;
  whole = whole;
  order = order;
  version = version;
  image_sound = image_sound;
  bytes = bytes;
  few = few;
  terms = terms;
  explained_has_log = explained_has_log;
  log_is_explained = log_is_explained;
})

-- An order of the chosen accesses and the recorded order of all of them, in one total order.
use Rattle.std.specs.Prelude.{◌≡◌, ◌≢◌, ◌⊎◌, ℕ, suc, ◌<◌, ◌+◌, ◌&&◌, Bool, true, false, not, nat_lt, List, length, Option, Some, None, IsSome, refl}
use Rattle.std.proofs.Common.{sym, ◌∙◌, ap, subst, inl, inr, arith}
use Rattle.std.proofs.lemmas.Bool.{and_from, and_parts, false_from_ne_true, false≢true, lt-ltb, ltb-true}
use Rattle.elf_image.specs.Layout.{Layout}
use Rattle.odr_log.specs.declared.log.Log.{Log}
use Rattle.odr_log.specs.declared.log.Pos.{Pos}
use Rattle.rv_model.specs.Walk.{Walk, IsWalk}
use Rattle.rv_model.specs.CallsFit.{CallsFit}
use Rattle.rv_model.specs.RecordedOrder.{RecordedOrder}
use Rattle.walk_orders.specs.RecordedTest.{recorded_before}
use Rattle.walk_orders.proofs.Test.{recorded_test, test_ordered}
use Rattle.order_clauses.specs.Orders.{IsStrict, IsTotalAbove}
use Rattle.order_vars.specs.Chosen.{AgreesWith}
use Rattle.order_vars.specs.Chosen.{position as chosen_step}
use Rattle.order_vars.specs.Laws.{Spells}
use Rattle.order_vars.proofs.Agreeing.{assignments_orders}
use Rattle.race_set.specs.Laws.{IsMerge, IsOrderOfChosen}
use Rattle.race_set.proofs.Merge.{orders_merge}
use Rattle.formula_parts.specs.Order.{IsOrder}
use Rattle.order_places.specs.Laws.{AssignmentsSpellOrders}
use Rattle.order_places.proofs.Placed.{HasPlace, Scene, apart_places, count, has_place, is_chosen, place, scene_of, step_of}

-- a log whose calls fit, with a walk, and an order of the chosen steps of accesses that agrees with what it records
pub record Merging : Type 0 where
  pub image : Layout
  pub log : Log
  pub walk : Walk
  pub is_walk : IsWalk image log walk
  pub fit : CallsFit log
  pub scene : Scene
  pub total : ℕ → ℕ → Bool
  pub agrees : AgreesWith log scene.chosen total

-- ---- what is recorded, by the accesses' numbers

abbrev before : Merging → ℕ → ℕ → Bool
before m x y = recorded_before m.log (step_of m.scene x) (step_of m.scene y)

abbrev recorded : Merging → ℕ → ℕ → Bool
recorded m x y = nat_lt x (count m.scene) && (nat_lt y (count m.scene) && before m x y)

record IsRecorded (m : Merging) (x y : ℕ) : Type 0 where
  first : x < count m.scene
  second : y < count m.scene
  before : before m x y ≡ true

recorded_parts : (m : Merging) (x y : ℕ) → recorded m x y ≡ true → IsRecorded m x y
recorded_parts m x y e =
    let outer : (nat_lt x (count m.scene) ≡ true) × ((nat_lt y (count m.scene) && before m x y) ≡ true) =
    and_parts (nat_lt x (count m.scene)) (nat_lt y (count m.scene) && before m x y) e in
    let inner : (nat_lt y (count m.scene) ≡ true) × (before m x y ≡ true) = and_parts (nat_lt y (count m.scene)) (before m x y) outer.1 in
    record { first = ltb-true x (count m.scene) outer.0; second = ltb-true y (count m.scene) inner.0; before = inner.1 }

recorded_from : (m : Merging) (x y : ℕ) → x < count m.scene → y < count m.scene → before m x y ≡ true → recorded m x y ≡ true
recorded_from m x y x_in y_in e =
    and_from (nat_lt x (count m.scene)) (nat_lt y (count m.scene) && before m x y) (lt-ltb x (count m.scene) x_in)
    (and_from (nat_lt y (count m.scene)) (before m x y) (lt-ltb y (count m.scene) y_in) e)

recorded_strict : (m : Merging) → IsStrict (recorded m)
recorded_strict m = record {
  irreflexive = λ (x : ℕ).
      false_from_ne_true (recorded m x x)
      (λ (e : recorded m x x ≡ true). (test_ordered m.image m.log m.walk m.is_walk m.fit).no_ring (step_of m.scene x) (recorded_parts m x x e).before);
  transitive = λ (x y z : ℕ) (e : recorded m x y ≡ true) (f : recorded m y z ≡ true).
      recorded_from m x z (recorded_parts m x y e).first (recorded_parts m y z f).second
      ((test_ordered m.image m.log m.walk m.is_walk m.fit).transitive (step_of m.scene x) (step_of m.scene y) (step_of m.scene z)
      (recorded_parts m x y e).before (recorded_parts m y z f).before);
}

-- ---- the order of the chosen accesses, by their numbers

abbrev above : Merging → ℕ → ℕ → Bool
above m x y = is_chosen m.scene x && (is_chosen m.scene y && m.total (place m.scene x) (place m.scene y))

record IsAbove (m : Merging) (x y : ℕ) : Type 0 where
  first : is_chosen m.scene x ≡ true
  second : is_chosen m.scene y ≡ true
  total : m.total (place m.scene x) (place m.scene y) ≡ true

above_parts : (m : Merging) (x y : ℕ) → above m x y ≡ true → IsAbove m x y
above_parts m x y e =
    let outer : (is_chosen m.scene x ≡ true) × ((is_chosen m.scene y && m.total (place m.scene x) (place m.scene y)) ≡ true) =
    and_parts (is_chosen m.scene x) (is_chosen m.scene y && m.total (place m.scene x) (place m.scene y)) e in
    let inner : (is_chosen m.scene y ≡ true) × (m.total (place m.scene x) (place m.scene y) ≡ true) =
    and_parts (is_chosen m.scene y) (m.total (place m.scene x) (place m.scene y)) outer.1 in
    record { first = outer.0; second = inner.0; total = inner.1 }

above_from : (m : Merging) (x y : ℕ) → is_chosen m.scene x ≡ true → is_chosen m.scene y ≡ true → m.total (place m.scene x) (place m.scene y) ≡ true → above m x y ≡ true
above_from m x y x_in y_in e =
    and_from (is_chosen m.scene x) (is_chosen m.scene y && m.total (place m.scene x) (place m.scene y)) x_in
    (and_from (is_chosen m.scene y) (m.total (place m.scene x) (place m.scene y)) y_in e)

recorded_places : (m : Merging) (x y : ℕ) → is_chosen m.scene x ≡ true → is_chosen m.scene y ≡ true → recorded m x y ≡ true
    → m.total (place m.scene x) (place m.scene y) ≡ true
recorded_places m x y x_in y_in e =
    let first : HasPlace m.scene x = has_place m.scene x x_in in
    let second : HasPlace m.scene y = has_place m.scene y y_in in
    let r : RecordedOrder m.log (step_of m.scene x) (step_of m.scene y) =
    (recorded_test m.image m.log m.walk (step_of m.scene x) (step_of m.scene y) m.is_walk m.fit).0 (recorded_parts m x y e).before in
    m.agrees.agrees (place m.scene x) (place m.scene y) first.first.within second.first.within
    (subst (λ (p : Pos). RecordedOrder m.log p (chosen_step m.scene.chosen (place m.scene y))) (sym first.first.is)
    (subst (RecordedOrder m.log (step_of m.scene x)) (sym second.first.is) r))

above_order : (m : Merging) → IsOrderOfChosen (count m.scene) (recorded m) (is_chosen m.scene) (above m)
above_order m = record {
  strict = record {
    irreflexive = λ (x : ℕ).
        false_from_ne_true (above m x x)
        (λ (e : above m x x ≡ true). false≢true (sym (m.agrees.strict.irreflexive (place m.scene x)) ∙ (above_parts m x x e).total));
    transitive = λ (x y z : ℕ) (e : above m x y ≡ true) (f : above m y z ≡ true).
        above_from m x z (above_parts m x y e).first (above_parts m y z f).second
        (m.agrees.strict.transitive (place m.scene x) (place m.scene y) (place m.scene z) (above_parts m x y e).total (above_parts m y z f).total);
  };
  first_below = λ (x y : ℕ) (e : above m x y ≡ true). (has_place m.scene x (above_parts m x y e).first).there;
  second_below = λ (x y : ℕ) (e : above m x y ≡ true). (has_place m.scene y (above_parts m x y e).second).there;
  first_chosen = λ (x y : ℕ) (e : above m x y ≡ true). (above_parts m x y e).first;
  second_chosen = λ (x y : ℕ) (e : above m x y ≡ true). (above_parts m x y e).second;
  keeps = λ (x y : ℕ) (x_in : is_chosen m.scene x ≡ true) (y_in : is_chosen m.scene y ≡ true) (e : recorded m x y ≡ true).
      above_from m x y x_in y_in (recorded_places m x y x_in y_in e);
}

-- ---- one total order

-- what a strict order has is not in it the other way round
pub one_way : (lt : ℕ → ℕ → Bool) → IsStrict lt → (x y : ℕ) → lt x y ≡ true → lt y x ≡ false
one_way lt strict x y e =
    false_from_ne_true (lt y x) (λ (f : lt y x ≡ true). false≢true (sym (strict.irreflexive x) ∙ strict.transitive x y x e f))

-- two numbers, the second not before the first
pub record Apart (lt : ℕ → ℕ → Bool) : Type 0 where
  pub first : ℕ
  pub second : ℕ
  pub differ : first ≢ second
  pub not_back : lt second first ≡ false

next_differs : (n : ℕ) → n ≢ suc n
next_differs n e = omega (arith, e)

next_back : (n : ℕ) → suc n ≢ n
next_back n e = omega (arith, e)

apart_by : (lt : ℕ → ℕ → Bool) → IsStrict lt → (b : Bool) → lt 1 0 ≡ b → Apart lt
apart_by lt strict true e = record { first = 1; second = 0; differ = next_back 0; not_back = one_way lt strict 1 0 e }
apart_by lt strict false e = record { first = 0; second = 1; differ = next_differs 0; not_back = e }

pub record IsWhole (m : Merging) (lt : ℕ → ℕ → Bool) : Type 0 where
  pub order : IsOrder m.log m.scene.accesses lt
  pub keeps : (x y : ℕ) → is_chosen m.scene x ≡ true → is_chosen m.scene y ≡ true → m.total (place m.scene x) (place m.scene y) ≡ true → lt x y ≡ true

whole_by : (m : Merging) (merged : ℕ → ℕ → Bool) → IsMerge (recorded m) (above m) (is_chosen m.scene) merged
    → (lt : ℕ → ℕ → Bool) → IsTotalAbove (count m.scene) merged lt → IsWhole m lt
whole_by m merged is lt total = record {
  order = record {
    strict = total.strict;
    total = record {
      irreflexive = λ (x : ℕ) (x_in : x < count m.scene). total.strict.irreflexive x;
      transitive = λ (x y z : ℕ) (x_in : x < count m.scene) (y_in : y < count m.scene) (z_in : z < count m.scene). total.strict.transitive x y z;
      total = total.all;
      agrees = λ (x y : ℕ) (x_in : x < count m.scene) (y_in : y < count m.scene) (r : RecordedOrder m.log (step_of m.scene x) (step_of m.scene y)).
          total.keeps x y x_in y_in (is.keeps_recorded x y (recorded_from m x y x_in y_in
          ((recorded_test m.image m.log m.walk (step_of m.scene x) (step_of m.scene y) m.is_walk m.fit).1 r)));
    };
  };
  keeps = λ (x y : ℕ) (x_in : is_chosen m.scene x ≡ true) (y_in : is_chosen m.scene y ≡ true) (e : m.total (place m.scene x) (place m.scene y) ≡ true).
      total.keeps x y (has_place m.scene x x_in).there (has_place m.scene y y_in).there (is.keeps_above x y (above_from m x y x_in y_in e));
}

pub whole : (m : Merging) → (lt : ℕ → ℕ → Bool) × IsWhole m lt
whole m =
    let merged = orders_merge (count m.scene) (recorded m) (is_chosen m.scene) (above m) (recorded_strict m) (above_order m) in
    let apart : Apart merged.0 = apart_by merged.0 merged.1.strict (merged.0 1 0) refl in
    let some = merged.2 apart.first apart.second apart.differ apart.not_back in
    (some.0, whole_by m merged.0 merged.1 some.0 some.1)

-- the whole order says of accesses with places what the order of their places says
pub whole_says : (m : Merging) (lt : ℕ → ℕ → Bool) → IsWhole m lt → (x y : ℕ) → is_chosen m.scene x ≡ true → is_chosen m.scene y ≡ true → x ≢ y
    → m.total (place m.scene x) (place m.scene y) ≡ lt x y
whole_says m lt is x y x_in y_in differ =
    go (m.agrees.all (place m.scene x) (place m.scene y) (has_place m.scene x x_in).first.within (has_place m.scene y y_in).first.within (apart_places m.scene x y x_in y_in differ))
  where
    go : (m.total (place m.scene x) (place m.scene y) ≡ true) ⊎ (m.total (place m.scene y) (place m.scene x) ≡ true) → m.total (place m.scene x) (place m.scene y) ≡ lt x y
    go (inl e) = e ∙ sym (is.keeps x y x_in y_in e)
    go (inr e) = one_way m.total m.agrees.strict (place m.scene y) (place m.scene x) e ∙ sym (one_way lt is.order.strict y x (is.keeps y x y_in x_in e))

abbrev pub merging_of : (image : Layout) (log : Log) (walk : Walk) → IsWalk image log walk → CallsFit log → (s : Scene) (total : ℕ → ℕ → Bool)
    → AgreesWith log s.chosen total → Merging
merging_of image log walk is_walk fit s total agrees =
    record { image = image; log = log; walk = walk; is_walk = is_walk; fit = fit; scene = s; total = total; agrees = agrees }

pub assignments_spell : AssignmentsSpellOrders
assignments_spell image log walk accesses chosen at ordered access old new is_walk fit is w satisfied =
    let s : Scene = scene_of log accesses chosen at ordered old new is in
    let spelled_by : (total : ℕ → ℕ → Bool) × AgreesWith log chosen total × Spells chosen ordered w total =
    assignments_orders log chosen ordered old new is.literals w satisfied in
    let m : Merging = merging_of image log walk is_walk fit s spelled_by.0 spelled_by.1 in
    let all : (lt : ℕ → ℕ → Bool) × IsWhole m lt = whole m in (
      all.0,
      all.1.order,
      λ (x y : ℕ) (x_in : is_chosen s x ≡ true) (y_in : is_chosen s y ≡ true) (differ : x ≢ y).
          spelled_by.2 (place s x) (place s y) (has_place s x x_in).first.within (has_place s y y_in).first.within (apart_places s x y x_in y_in differ)
          ∙ whole_says m all.0 all.1 x y x_in y_in differ,
    )

-- Total orders give pairs that can be woven, and woven schedules keep these orders.
use Rattle.std.specs.Prelude.{◌≡◌, ℕ, ◌+◌, ◌<◌, ◌⊎◌, Bool, true, false, ◌&&◌, ◌||◌, List, [], ◌∷◌, ◌++◌, nat_eq, Contains, refl}
use Rattle.std.proofs.Common.{sym, ◌∙◌, ap, subst, arith, inl, inr, eqb-true, eq-eqb}
use Rattle.std.proofs.lemmas.Bool.{and_from, and_parts, cases_lt, false≢true, le-leb}
use Rattle.elf_image.specs.Layout.{Layout}
use Rattle.odr_log.specs.declared.log.Log.{Log}
use Rattle.odr_log.specs.declared.log.Pos.{Pos}
use Rattle.rv_model.specs.CallsFit.{CallsFit}
use Rattle.rv_model.specs.RecordedOrder.{Counted, RecordedOrder}
use Rattle.rv_model.specs.Run.{logged}
use Rattle.rv_model.specs.Walk.{IsWalk, Walk}
use Rattle.guided_walk.specs.Law.{holds}
use Rattle.guided_walk.specs.Orders.{Distinct, In, Keeps, Stands}
use Rattle.guided_walk.specs.Ordered.{ExitLast, IsExit}
use Rattle.guided_walk.specs.Schedules.{places, places_after, times}
use Rattle.guided_walk.specs.Woven.{Woven, faulting}
use Rattle.guided_walk.proofs.CallOrder.{record_counted}
use Rattle.guided_walk.proofs.Placing.{distinct_places, done_after, place_below, place_in, places-append}
use Rattle.guided_walk.proofs.Table.{same_pos}
use Rattle.walk_orders.specs.Total.{ComesFrom, Decides}
use Rattle.walk_orders.proofs.Exits.{ExitsBy, exit_by, exit_ends_thread}
use Rattle.walk_orders.proofs.Lists.{keeps_stands, stands_first, stands_left, stands_once, stands_or, stands_second, stands_then}
use Rattle.walk_orders.proofs.Weaving.{from_counted, no_ring, to_counted, weaving_law}
use Rattle.schedule_extract.specs.Going.{ExitsEnd, NoRing, Precedes}
use Rattle.schedule_extract.specs.Law.{TotalOrdersAreWoven, WovenCanBeWoven, WovenKeepsOrder}

-- ---- what stands before what, as a test

abbrev is_step : Pos → Pos → Bool
is_step p q = nat_eq p.thread q.thread && nat_eq p.step q.step

abbrev is_in : Pos → List Pos → Bool
is_in p [] = false
is_in p (x ∷ xs) = is_step x p || is_in p xs

abbrev pub stands : List Pos → Pos → Pos → Bool
stands [] p q = false
stands (x ∷ xs) p q = (is_step x p && is_in q xs) || stands xs p q

or_left : (b c : Bool) → b ≡ true → (b || c) ≡ true
or_left true c e = refl
or_left false c e = absurd (false≢true e)

or_right : (b c : Bool) → c ≡ true → (b || c) ≡ true
or_right true c e = refl
or_right false c e = e

or_either : (b c : Bool) → (b || c) ≡ true → (b ≡ true) ⊎ (c ≡ true)
or_either true c e = inl refl
or_either false c e = inr e

step_test : (p q : Pos) → p ≡ q → is_step p q ≡ true
step_test p q e = and_from _ _ (eq-eqb p.thread q.thread (ap (λ (x : Pos). x.thread) e)) (eq-eqb p.step q.step (ap (λ (x : Pos). x.step) e))

test_step : (p q : Pos) → is_step p q ≡ true → p ≡ q
test_step p q e =
    let parts : (nat_eq p.thread q.thread ≡ true) × (nat_eq p.step q.step ≡ true) = and_parts _ _ e in
    same_pos p q (sym (eqb-true p.thread q.thread parts.0)) (sym (eqb-true p.step q.step parts.1))

in_test : (p : Pos) (xs : List Pos) → In p xs → is_in p xs ≡ true
in_test p [] i = absurd i
in_test p (x ∷ xs) (inl e) = or_left (is_step x p) (is_in p xs) (step_test x p e)
in_test p (x ∷ xs) (inr i) = or_right (is_step x p) (is_in p xs) (in_test p xs i)

test_in : (p : Pos) (xs : List Pos) → is_in p xs ≡ true → In p xs
test_in p [] e = absurd (false≢true e)
test_in p (x ∷ xs) e = elim (or_either (is_step x p) (is_in p xs) e) [
  | inl same ↦ inl (test_step x p same)
  | inr later ↦ inr (test_in p xs later)
]

pub stands_test : (xs : List Pos) (p q : Pos) → Stands xs p q → stands xs p q ≡ true
stands_test [] p q s = absurd s
stands_test (x ∷ xs) p q (inl s) = or_left (is_step x p && is_in q xs) (stands xs p q) (and_from _ _ (step_test x p s.0) (in_test q xs s.1))
stands_test (x ∷ xs) p q (inr s) = or_right (is_step x p && is_in q xs) (stands xs p q) (stands_test xs p q s)

pub test_stands : (xs : List Pos) (p q : Pos) → stands xs p q ≡ true → Stands xs p q
test_stands [] p q e = absurd (false≢true e)
test_stands (x ∷ xs) p q e = elim (or_either (is_step x p && is_in q xs) (stands xs p q) e) [
  | inl both ↦ (let parts : (is_step x p ≡ true) × (is_in q xs ≡ true) = and_parts _ _ both in inl (test_step x p parts.0, test_in q xs parts.1))
  | inr later ↦ inr (test_stands xs p q later)
]

-- ---- total orders can be woven

exits_end : (image : Layout) (log : Log) (walk : Walk) → IsWalk image log walk → ExitsEnd log
exits_end image log walk is p exit =
    let by : ExitsBy log p = exit_by log p exit in
    let counted : p.step < (logged log p.thread).steps = subst (Counted log) by.place (record_counted image log walk is by.made by.among) in
    let after : Pos = record { thread = p.thread; step = p.step + 1 } in
    elim (cases_lt (p.step + 1) (logged log p.thread).steps) [
      | inl less ↦ (let same : after ≡ p = exit_ends_thread image log walk is p after by less
          (and_from _ _ (eq-eqb p.thread p.thread refl) (le-leb p.step (p.step + 1) (omega arith))) in
          let step : p.step + 1 ≡ p.step = ap (λ (x : Pos). x.step) same in
          absurd (omega (arith, step)))
      | inr past ↦ omega (arith, counted, past)
    ]

-- a list of all counted steps that keeps the recorded order and has the pairs in order
ring_by : (log : Log) (pairs : List (Pos × Pos)) (steps : List Pos) → CallsFit log → Distinct steps → ((p : Pos) → Counted log p → In p steps)
    → Keeps (RecordedOrder log) steps
    → ((p q : Pos) → Contains pairs (p, q) → Stands steps p q) → NoRing log pairs
ring_by log pairs steps fit once all keeps paired = record {
  before = stands steps;
  strict = λ (p : Pos) (counted : Counted log p) (e : stands steps p p ≡ true). stands_once p steps once (test_stands steps p p e);
  transitive = λ (p q r : Pos) (i : Counted log p) (j : Counted log q) (k : Counted log r) (e : stands steps p q ≡ true) (f : stands steps q r ≡ true).
      stands_test steps p r (stands_then p q r steps once (test_stands steps p q e) (test_stands steps q r f));
  has = has;
} where
  recorded : (p q : Pos) → RecordedOrder log p q → Stands steps p q
  recorded p q order =
      elim (stands_or p q steps (all p (from_counted log p q order)) (all q (to_counted log p q order))
      (λ (e : p ≡ q). no_ring log fit p (subst (RecordedOrder log p) (sym e) order))) [
        | inl s ↦ s
        | inr s ↦ absurd (keeps_stands (RecordedOrder log) q p steps keeps s order)
      ]

  has : (p q : Pos) → Precedes log pairs p q → stands steps p q ≡ true
  has p q (inl order) = stands_test steps p q (recorded p q order)
  has p q (inr pair) = stands_test steps p q (paired p q pair)

pub total_woven : TotalOrdersAreWoven
total_woven image log walk chosen before pairs is fit counted goes_on total are = record {
  exits_end = exits_end image log walk is;
  counted = λ (p q : Pos) (pair : Contains pairs (p, q)). (counted p (are p q pair).0, counted q (are p q pair).1);
  go_on = λ (p q : Pos) (pair : Contains pairs (p, q)). goes_on p (are p q pair).0;
  no_ring =
      let from : ComesFrom log chosen (holds before) = weaving_law image log walk chosen before is fit counted goes_on total in
      ring_by log pairs from.steps fit from.lists.once from.lists.all from.recorded
      (λ (p q : Pos) (pair : Contains pairs (p, q)). let within : In p chosen × In q chosen × holds before p q = are p q pair in
      (from.decided p q within.0 within.1).1 within.2);
}

-- ---- where some schedule is woven

nothing_after : (log : Log) (steps : List Pos) (p q : Pos) → ExitLast log steps → IsExit log p → Stands steps p q → ⊥
nothing_after log [] p q last exit s = s
nothing_after log (x ∷ xs) p q last exit (inl s) = subst (In q) (last.0 (subst (IsExit log) (sym s.0) exit)) s.1
nothing_after log (x ∷ xs) p q last exit (inr s) = nothing_after log xs p q last.1 exit s

pub woven_can : WovenCanBeWoven
woven_can image log walk pairs schedule is fit woven =
    let steps : List Pos = places woven.counted in
    let tail : List Pos = places_after (done_after [] woven.counted) (faulting log.end) in
    let whole : places schedule ≡ steps ++ tail = ap places woven.whole ∙ places-append [] woven.counted (faulting log.end) in
    let only : (p : Pos) → In p steps → Counted log p =
    λ (p : Pos) (i : In p steps). (let below : p.step < 0 + times p.thread woven.counted = place_below [] woven.counted p i in
    omega (arith, below, woven.steps p.thread)) in
    record {
      exits_end = exits_end image log walk is;
      counted = λ (p q : Pos) (pair : Contains pairs (p, q)).
          (only p (stands_first p q steps (woven.paired p q pair)), only q (stands_second p q steps (woven.paired p q pair)));
      go_on = λ (p q : Pos) (pair : Contains pairs (p, q)) (exit : IsExit log p).
          nothing_after log (places schedule) p q woven.exit_last exit (subst (λ (xs : List Pos). Stands xs p q) (sym whole)
          (stands_left p q steps tail (woven.paired p q pair)));
      no_ring =
          ring_by log pairs steps fit (distinct_places [] woven.counted)
          (λ (p : Pos) (c : Counted log p). place_in [] woven.counted p (omega arith) (omega (arith, c, woven.steps p.thread))) woven.recorded woven.paired;
    }

-- ---- woven schedules keep the order

stands_woven : (log : Log) (pairs : List (Pos × Pos)) (schedule : List ℕ) → CallsFit log → (woven : Woven log pairs schedule) → (p q : Pos) → Counted log p
    → Counted log q
    → Precedes log pairs p q → Stands (places woven.counted) p q
stands_woven log pairs schedule fit woven p q i j (inl order) =
    let there : (x : Pos) → Counted log x → In x (places woven.counted) =
    λ (x : Pos) (c : Counted log x). place_in [] woven.counted x (omega arith) (omega (arith, c, woven.steps x.thread)) in
    elim (stands_or p q (places woven.counted) (there p i) (there q j) (λ (e : p ≡ q). no_ring log fit p (subst (RecordedOrder log p) (sym e) order))) [
      | inl s ↦ s
      | inr s ↦ absurd (keeps_stands (RecordedOrder log) q p (places woven.counted) woven.recorded s order)
    ]
stands_woven log pairs schedule fit woven p q i j (inr pair) = woven.paired p q pair

pub woven_keeps : WovenKeepsOrder
woven_keeps log chosen before pairs schedule fit counted total has woven p q i j =
    let tail : List Pos = places_after (done_after [] woven.counted) (faulting log.end) in
    let whole : places schedule ≡ places woven.counted ++ tail = ap places woven.whole ∙ places-append [] woven.counted (faulting log.end) in
    let once : Distinct (places schedule) = distinct_places [] schedule in
    let up : (x y : Pos) → In x chosen → In y chosen → holds before x y → Decides schedule x y =
    λ (x y : Pos) (k : In x chosen) (l : In y chosen) (e : holds before x y).
    subst (λ (xs : List Pos). Stands xs x y) (sym whole)
    (stands_left x y (places woven.counted) tail (stands_woven log pairs schedule fit woven x y (counted x k) (counted y l) (has x y k l e))) in (
      λ (s : Decides schedule p q). elim (total.total p q i j (λ (e : p ≡ q). stands_once p (places schedule) once
          (subst (Stands (places schedule) p) (sym e) s))) [
            | inl e ↦ e
            | inr back ↦ absurd (stands_once p (places schedule) once (stands_then p q p (places schedule) once s (up q p j i back)))
          ],
      λ (e : holds before p q). up p q i j e,
    )

-- The recorded order is ordered.
use Rattle.std.specs.Prelude.{◌≡◌, ℕ, zero, suc, ◌<◌, ◌≤◌, true, List, [], ◌∷◌, length, drop, nat_eq, slice_get, Option, Some, None, Contains, refl}
use Rattle.std.specs.List.{find}
use Rattle.std.proofs.Common.{sym, ◌∙◌, ap, subst, arith, eqb-true, eq-eqb}
use Rattle.std.proofs.lemmas.Bool.{and_parts, and_from}
use Rattle.std.proofs.lemmas.Option.{none-some, slice_get_read}
use Rattle.elf_image.specs.Layout.{Layout}
use Rattle.odr_log.specs.declared.log.Call.{Call}
use Rattle.odr_log.specs.declared.log.Call.TheVariants as call
use Rattle.odr_log.specs.declared.log.CallRec.{CallRec}
use Rattle.odr_log.specs.declared.log.Log.{Log}
use Rattle.odr_log.specs.declared.log.Pos.{Pos}
use Rattle.odr_log.specs.Tape.{tape_of}
use Rattle.rv_model.specs.Calls.{opening_calls}
use Rattle.rv_model.specs.Run.{HasLog, cons_some}
use Rattle.rv_model.specs.Walk.{Walk, IsWalk}
use Rattle.rv_model.specs.CallsFit.{CallsFit}
use Rattle.rv_model.specs.RecordedOrder.{Closure, One, More, Counted, InThread, ByCalls, BySpawn, RecordedOrder}
use Rattle.guided_walk.specs.Told.{told, place_of, noted}
use Rattle.guided_walk.specs.Orders.{Keeps, Distinct, Lists}
use Rattle.guided_walk.specs.Flow.{FlowEdge, InThread as FlowThread, BySpawn as FlowSpawn, ByJoin, CountedFlow, Flow}
use Rattle.guided_walk.specs.Ordered.{ExitLast, is_at, calls_along, told_along}
use Rattle.guided_walk.proofs.Table.{Apart, apart_push, apart_none, same_pos}
use Rattle.guided_walk.proofs.Walks.{called}
use Rattle.guided_walk.proofs.Records.{Among, among_at, found_among, among_found, rec, one_record}
use Rattle.guided_walk.proofs.Facts.{called_noted}
use Rattle.guided_walk.proofs.CallOrder.{record_counted, drop_at, Splits, SplitsOn, NoCall, ACall, splits_on}
use Rattle.guided_walk.proofs.NeedsOrder.{end_before_join}
use Rattle.walk_orders.specs.Law.{RecordedIsOrdered}
use Rattle.walk_orders.proofs.Merge.{closure_then}
use Rattle.walk_orders.proofs.Weaving.{no_ring}
use Rattle.walk_orders.proofs.Runs.{run_keeps}

-- ---- the flow is recorded

pub contains_at : (xs : List CallRec) (r : CallRec) → (has : Contains xs r) → slice_get xs has.0 ≡ Some r
contains_at xs r has = slice_get_read xs (length xs) has.0 r refl has.1 (sym has.2)

edge_recorded : (log : Log) → CallsFit log → (p q : Pos) → CountedFlow log p q → FlowEdge log p q → RecordedOrder log p q
edge_recorded log fit p q flow (FlowThread same less) = One (record { from = flow.from; to = flow.to; edge = InThread same less })
edge_recorded log fit p q flow (FlowSpawn {entry = entry} spawns) = One (record { from = flow.from; to = flow.to; edge = BySpawn {entry = entry} spawns })
edge_recorded log fit p q flow (ByJoin ended joined) =
    let ender : CallRec = rec p.thread p.step call.EndThread in
    let join : CallRec = rec q.thread q.step (call.Join p.thread true) in
    let a : slice_get log.calls ended.0 ≡ Some ender = contains_at log.calls ender ended in
    let b : slice_get log.calls joined.0 ≡ Some join = contains_at log.calls join joined in
    One (record {
      from = flow.from;
      to = flow.to;
      edge = ByCalls (record { made = call.EndThread; is = a }) (record { made = call.Join p.thread true; is = b })
          (end_before_join (opening_calls (tape_of log)) log.calls ended.0 joined.0 ender join fit.pass a refl b refl);
    })

pub flow_recorded : (log : Log) → CallsFit log → {p q : Pos} → Closure (CountedFlow log) p q → RecordedOrder log p q
flow_recorded log fit {p} {q} (One e) = edge_recorded log fit p q e e.edge
flow_recorded log fit {p} {q} (More {q = x} e rest) = closure_then (edge_recorded log fit p x e e.edge) (flow_recorded log fit rest)

-- ---- along a list of all counted steps that keeps the recorded order the calls are the records

at_place : (p : Pos) (r : CallRec) → is_at p r ≡ true → place_of r ≡ p
at_place p r e =
    let parts : (nat_eq r.tid p.thread ≡ true) × (nat_eq r.at p.step ≡ true) = and_parts _ _ e in
    same_pos (place_of r) p (sym (eqb-true r.tid p.thread parts.0)) (sym (eqb-true r.at p.step parts.1))

quiet_found : (image : Layout) (log : Log) (walk : Walk) → IsWalk image log walk → (p : Pos) → called (noted (told log walk) p) ≡ None → (o : Option CallRec) → find (is_at p) log.calls ≡ o → o ≡ None
quiet_found image log walk is p quiet None e = refl
quiet_found image log walk is p quiet (Some r) e =
    let there : Among r log.calls × (is_at p r ≡ true) = found_among (is_at p) log.calls r e in
    absurd (none-some r.call (sym quiet ∙ ap (λ (q : Pos). called (noted (told log walk) q)) (sym (at_place p r there.1)) ∙ ap called (called_noted image log walk is r there.0)))

call_found : (log : Log) → CallsFit log → (p : Pos) (made : Call) → Among (rec p.thread p.step made) log.calls → find (is_at p) log.calls ≡ Some (rec p.thread p.step made)
call_found log fit p made has =
    let r : CallRec = rec p.thread p.step made in
    let found : (y : CallRec) × (find (is_at p) log.calls ≡ Some y) =
    among_found (is_at p) log.calls r has (and_from _ _ (eq-eqb p.thread p.thread refl) (eq-eqb p.step p.step refl)) in
    let there : Among found.0 log.calls × (is_at p found.0 ≡ true) = found_among (is_at p) log.calls found.0 found.1 in
    let place : place_of found.0 ≡ p = at_place p found.0 there.1 in
    found.1 ∙ ap (λ (y : CallRec). Some y)
    (one_record log.calls fit.rising found.0 r there.0 has (ap (λ (x : Pos). x.thread) place) (ap (λ (x : Pos). x.step) place))

past_end : (xs : List CallRec) (n : ℕ) → slice_get xs n ≡ None → drop n xs ≡ []
past_end [] zero e = refl
past_end [] (suc n) e = refl
past_end (x ∷ xs) zero e = absurd (none-some x (sym e))
past_end (x ∷ xs) (suc n) e = past_end xs n e

none_left : (log : Log) (done : List Pos) (n : ℕ) → Splits log done [] n → (o : Option CallRec) → slice_get log.calls n ≡ o → drop n log.calls ≡ []
none_left log done n splits None e = past_end log.calls n e
none_left log done n splits (Some r) e = absurd (splits.rest n r e (omega arith))

pub calls_told : (image : Layout) (log : Log) (walk : Walk) → IsWalk image log walk → CallsFit log → (done ps : List Pos) (n : ℕ) → Distinct ps → Apart done ps
    → Keeps (RecordedOrder log) ps → Splits log done ps n → calls_along log ps ≡ drop n log.calls
calls_told image log walk is fit done [] n distinct apart keeps splits = sym (none_left log done n splits (slice_get log.calls n) refl)
calls_told image log walk is fit done (p ∷ later) n distinct apart keeps splits = by_step (splits_on image log walk is fit done p later n apart keeps splits)
    (λ (m : ℕ) (s : Splits log (p ∷ done) later m). calls_told image log walk is fit (p ∷ done) later m distinct.1 (apart_push done p later distinct apart) keeps.1 s) where
      by_step : SplitsOn log walk done p later n → ((m : ℕ) → Splits log (p ∷ done) later m → calls_along log later ≡ drop m log.calls) → calls_along log (p ∷ later) ≡ drop n log.calls
      by_step (NoCall quiet s) again =
          ap (λ (o : Option CallRec). cons_some o (calls_along log later)) (quiet_found image log walk is p quiet (find (is_at p) log.calls) refl) ∙ again n s
      by_step (ACall {made = made} shows at s) again =
          ap (λ (o : Option CallRec). cons_some o (calls_along log later)) (call_found log fit p made (among_at log.calls n (rec p.thread p.step made) at))
          ∙ ap (λ (rs : List CallRec). rec p.thread p.step made ∷ rs) (again (suc n) s)
          ∙ sym (drop_at log.calls n (rec p.thread p.step made) at)

first_split : (image : Layout) (log : Log) (walk : Walk) → IsWalk image log walk → (steps : List Pos) → Lists (Counted log) steps → Splits log [] steps 0
first_split image log walk is steps lists = record {
  past = λ (m : ℕ) (r : CallRec) (e : slice_get log.calls m ≡ Some r) (less : m < 0). absurd (omega (arith, less));
  rest = λ (m : ℕ) (r : CallRec) (e : slice_get log.calls m ≡ Some r) (le : 0 ≤ m). lists.all (place_of r) (record_counted image log walk is r (among_at log.calls m r e));
}

told_again : (image : Layout) (log : Log) (walk : Walk) → IsWalk image log walk → CallsFit log → (steps : List Pos) → Lists (Counted log) steps → Keeps (RecordedOrder log) steps → told_along log steps ≡ log
told_again image log walk is fit steps lists keeps =
    ap (λ (calls : List CallRec). let l : Log = record log { calls = calls } in l)
    (calls_told image log walk is fit [] steps 0 lists.once (apart_none steps) keeps (first_split image log walk is steps lists))

pub recorded_law : RecordedIsOrdered
recorded_law image log walk is fit = record {
  transitive = λ (p q r : Pos) (one : RecordedOrder log p q) (other : RecordedOrder log q r). closure_then one other;
  no_ring = no_ring log fit;
  flow = λ (p q : Pos) (f : Flow log p q). flow_recorded log fit f;
  kept = λ (schedule : List ℕ) (has : HasLog image log schedule). run_keeps image log schedule has;
  passes = λ (steps : List Pos) (lists : Lists (Counted log) steps) (keeps : Keeps (RecordedOrder log) steps) (last : ExitLast log steps).
      subst CallsFit (sym (told_again image log walk is fit steps lists keeps)) fit;
  again = λ (steps : List Pos) (lists : Lists (Counted log) steps) (keeps : Keeps (RecordedOrder log) steps) (last : ExitLast log steps).
      told_again image log walk is fit steps lists keeps;
}

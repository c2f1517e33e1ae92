-- What woven schedules decide, and schedules that have a log are woven.
use Rattle.std.specs.Prelude.{◌≡◌, ◌≢◌, ℕ, ◌+◌, ◌⊎◌, Bool, true, false, cond, List, [], ◌∷◌, ◌++◌, length, map, nat_eq, Option, Some, None, is_some, is_none, Contains, refl}
use Rattle.std.specs.List.{list_all}
use Rattle.std.proofs.Common.{sym, ◌∙◌, ap, subst, arith, inl, inr, eq-eqb}
use Rattle.std.proofs.lemmas.Bool.{false≢true}
use Rattle.std.proofs.lemmas.List.{append-nil, length-append}
use Rattle.elf_image.specs.Layout.{Layout}
use Rattle.odr_log.specs.declared.log.Cause.{Cause}
use Rattle.odr_log.specs.declared.log.CallRec.{CallRec}
use Rattle.odr_log.specs.declared.log.End.{End}
use Rattle.odr_log.specs.declared.log.End.TheVariants as end
use Rattle.odr_log.specs.declared.log.Log.{Log}
use Rattle.odr_log.specs.declared.log.Pos.{Pos}
use Rattle.odr_log.specs.Tape.{tape_of}
use Rattle.rv_model.specs.declared.state.Halt.{Halt}
use Rattle.rv_model.specs.declared.state.Halt.TheVariants as halt
use Rattle.rv_model.specs.declared.state.Event.{Event}
use Rattle.rv_model.specs.declared.state.Note.{Note}
use Rattle.rv_model.specs.declared.state.Note.TheVariants as note
use Rattle.rv_model.specs.declared.state.State.{State}
use Rattle.rv_model.specs.Step.{opening, halt_then, step}
use Rattle.rv_model.specs.Run.{Runs, final, events, event_of, record_in, records_of, HasLog, logged, end_by}
use Rattle.rv_model.specs.Walk.{notes_of}
use Rattle.rv_model.specs.CallsFit.{is_exit}
use Rattle.rv_model.specs.RecordedOrder.{Counted, RecordedOrder}
use Rattle.guided_walk.specs.Told.{told, last_fault, place_of}
use Rattle.guided_walk.specs.Orders.{In, Keeps, Distinct, Stands}
use Rattle.guided_walk.specs.Schedules.{places_after, places, times}
use Rattle.guided_walk.specs.Ordered.{IsExit, ExitLast}
use Rattle.guided_walk.specs.Woven.{faulting}
use Rattle.guided_walk.proofs.Along.{Next}
use Rattle.guided_walk.proofs.LoggedRun.{Total}
use Rattle.guided_walk.proofs.Placing.{in_left, distinct_places, place_in, times-append, done_after, places-append}
use Rattle.guided_walk.proofs.Records.{Among}
use Rattle.guided_walk.proofs.ScheduleLaw.{notes_are}
use Rattle.walk_orders.specs.Total.{Decides}
use Rattle.walk_orders.specs.Law.{WovenDecides, LoggedIsWoven}
use Rattle.walk_orders.proofs.Lists.{stands_left, stands_then, stands_once, stands_or, keeps_standing, keeps_stands}
use Rattle.walk_orders.proofs.Exits.{ExitsBy, exit_by, exit_halts, exit_keeps}
use Rattle.walk_orders.proofs.Weaving.{no_ring}
use Rattle.walk_orders.proofs.Runs.{Ran, opening_ran, StepOf, Stops, Moves, step_of, halted_rest, place_at, run_places, record_place, record_in_by, record_placed, calls_run, end_run, fell, not_fell, has_total, run_keeps}

-- ---- a woven schedule

pub woven_decides : WovenDecides
woven_decides log pairs schedule chosen fit woven counted =
    let list : List Pos = places woven.counted in
    let tail : List Pos = places_after (done_after [] woven.counted) (faulting log.end) in
    let whole : places schedule ≡ list ++ tail = ap places woven.whole ∙ places-append [] woven.counted (faulting log.end) in
    let once : Distinct (places schedule) = distinct_places [] schedule in
    let there : (p : Pos) → Counted log p → In p list =
    λ (p : Pos) (c : Counted log p). place_in [] woven.counted p (omega arith) (omega (arith, c, woven.steps p.thread)) in
    let up : (p q : Pos) → Stands list p q → Stands (places schedule) p q =
    λ (p q : Pos) (s : Stands list p q). subst (λ (xs : List Pos). Stands xs p q) (sym whole) (stands_left p q list tail s) in
    record {
      transitive = λ (p q r : Pos) (i : In p chosen) (j : In q chosen) (k : In r chosen) (s : Decides schedule p q) (t : Decides schedule q r).
          stands_then p q r (places schedule) once s t;
      no_ring = λ (p : Pos) (i : In p chosen) (s : Decides schedule p p). stands_once p (places schedule) once s;
      total = λ (p q : Pos) (i : In p chosen) (j : In q chosen) (ne : p ≢ q). elim (stands_or p q list (there p (counted p i)) (there q (counted q j)) ne) [
        | inl s ↦ inl (up p q s)
        | inr s ↦ inr (up q p s)
      ];
      agrees = λ (p q : Pos) (i : In p chosen) (j : In q chosen) (order : RecordedOrder log p q).
          elim (stands_or p q list (there p (counted p i)) (there q (counted q j)) (λ (e : p ≡ q). no_ring log fit p (subst (RecordedOrder log p) (sym e) order))) [
            | inl s ↦ up p q s
            | inr s ↦ absurd (keeps_stands (RecordedOrder log) q p list woven.recorded s order)
          ];
    }

-- ---- the last step of a run that faults

same_fault : (t u : ℕ) (one other : Cause) → Some (halt.Faulted t one) ≡ Some (halt.Faulted u other) → t ≡ u
same_fault t u one other e = cc

-- a step that goes on halts in no fault
never_faults : (t u : ℕ) (fault : Cause) (n : Note) → halt_then t n ≡ Some (halt.Faulted u fault) → ⊥
never_faults t u fault n e =
    absurd (let one : 0 ≡ 1 = sym (not_fell u t n) ∙ ap (fell u) e ∙ ap (λ (b : Bool). cond b 1 0) (eq-eqb u u refl) in omega (arith, one))

abbrev EndsIn : ℕ → List ℕ → Type 0
EndsIn t schedule = (counted : List ℕ) × (schedule ≡ counted ++ t ∷ [])

ends_now : (t u : ℕ) (schedule : List ℕ) → schedule ≡ [] → u ≡ t → EndsIn t (u ∷ schedule)
ends_now t u schedule none same = ([], ap (λ (s : List ℕ). u ∷ s) none ∙ ap (λ (v : ℕ). v ∷ []) same)

ends_later : (t u : ℕ) (schedule : List ℕ) → EndsIn t schedule → EndsIn t (u ∷ schedule)
ends_later t u schedule later = (u ∷ later.0, ap (λ (s : List ℕ). u ∷ s) later.1)

pub fault_ends : (image : Layout) (state : State) (done : List Pos) (schedule : List ℕ) (t : ℕ) (fault : Cause) → Ran done state → Runs image state schedule → is_none state.core.halt ≡ true
    → (final image state schedule).core.halt ≡ Some (halt.Faulted t fault) → EndsIn t schedule
fault_ends image state done [] t fault ran runs running e = absurd (false≢true (sym (ap is_none e) ∙ running))
fault_ends image state done (u ∷ schedule) t fault ran runs running e =
    by_step (step_of image state done u ran runs.0) (is_none next.core.halt) refl
    (λ (after : Ran (Next u done) next) (goes : is_none next.core.halt ≡ true). fault_ends image next (Next u done) schedule t fault after runs.1 goes e) where
      next : State
      next = (step image state u).state

      here : is_none next.core.halt ≡ false → next.core.halt ≡ Some (halt.Faulted t fault)
      here halted = subst (λ (s : List ℕ). (final image next s).core.halt ≡ Some (halt.Faulted t fault)) (halted_rest image next schedule runs.1 halted) e

      by_step : StepOf image state done u → (b : Bool) → is_none next.core.halt ≡ b → (Ran (Next u done) next → is_none next.core.halt ≡ true → EndsIn t schedule) → EndsIn t (u ∷ schedule)
      by_step (Stops {fault = other} shows halted) b is again =
          let none : is_none next.core.halt ≡ false = ap is_none halted in
          ends_now t u schedule (halted_rest image next schedule runs.1 none) (same_fault u t other fault (sym halted ∙ here none))
      by_step (Moves after makes more halts) true is again = ends_later t u schedule (again after is)
      by_step (Moves after makes more halts) false is again = absurd (never_faults u t fault (step image state u).note (sym halts ∙ here is))

-- ---- an exit is the last step of a run

pub exit_stands_last : (image : Layout) (state : State) (done : List Pos) (schedule : List ℕ) (r : CallRec) (q : Pos) → Ran done state → Runs image state schedule
    → Distinct (map place_at (events image state schedule)) → is_exit r.call ≡ true → Among r (records_of (events image state schedule))
    → Stands (map place_at (events image state schedule)) (place_of r) q → ⊥
exit_stands_last image state done [] r q ran runs distinct exit has s = has
exit_stands_last image state done (t ∷ schedule) r q ran runs distinct exit has s =
    by_step (step_of image state done t ran runs.0) (record_in_by head (events image next schedule) r (record_in head) refl has) s
    (λ (after : Ran (Next t done) next) (later : Among r (records_of (events image next schedule))) (stands : Stands (map place_at (events image next schedule)) (place_of r) q).
    exit_stands_last image next (Next t done) schedule r q after runs.1 distinct.1 exit later stands) where
      next : State
      next = (step image state t).state

      head : Event
      head = event_of image state t

      nothing : is_none next.core.halt ≡ false → Stands (map place_at (head ∷ events image next schedule)) (place_of r) q → ⊥
      nothing halted stands =
          one_step (subst (λ (l : List ℕ). Stands (map place_at (head ∷ events image next l)) (place_of r) q) (halted_rest image next schedule runs.1 halted) stands) where
            one_step : Stands (place_at head ∷ []) (place_of r) q → ⊥
            one_step (inl both) = both.1
            one_step (inr later) = later

      halted_by : halt_then t head.note ≡ next.core.halt → head.note ≡ note.Called r.call → is_none next.core.halt ≡ false
      halted_by is shown =
          let code : (code : ℕ) × (halt_then t (note.Called r.call) ≡ Some (halt.Exited t code)) = exit_halts t r.call exit in
          ap is_none (sym is ∙ ap (halt_then t) shown ∙ code.1)

      by_step : StepOf image state done t → (record_in head ≡ Some r) ⊎ Among r (records_of (events image next schedule)) → Stands (map place_at (head ∷ events image next schedule)) (place_of r) q
          → (Ran (Next t done) next → Among r (records_of (events image next schedule)) → Stands (map place_at (events image next schedule)) (place_of r) q → ⊥) → ⊥
      by_step (Stops shows halted) where_is stands again = nothing (ap is_none halted) stands
      by_step (Moves after makes more halts) (inl here) stands again =
          nothing (halted_by (sym halts) (record_place head.thread head.at head.note r here).1) stands
      by_step (Moves after makes more halts) (inr later) (inl both) again =
          distinct.0 (subst (λ (p : Pos). In p (map place_at (events image next schedule))) (sym both.0) (record_placed (events image next schedule) r later))
      by_step (Moves after makes more halts) (inr later) (inr stands) again = again after later stands

run_exits : (image : Layout) (log : Log) (schedule : List ℕ) → HasLog image log schedule → ExitLast log (places schedule)
run_exits image log schedule has =
    let start : State = opening image (tape_of log) in
    let ran : Ran [] start = opening_ran image (tape_of log) in
    let calls : records_of (events image start schedule) ≡ log.calls = calls_run (final image start schedule) (events image start schedule) log has.log_is in
    let is : map place_at (events image start schedule) ≡ places schedule = run_places image start [] schedule ran has.runs in
    let once : Distinct (places schedule) = distinct_places [] schedule in
    exit_keeps log (places schedule) once
    (keeps_standing (λ (q p : Pos). IsExit log p × (q ≡ p → ⊥)) (places schedule) once
    (λ (q p : Pos) (i : In q (places schedule)) (j : In p (places schedule)) (r : IsExit log p × (q ≡ p → ⊥)). elim (stands_or q p (places schedule) i j r.1) [
      | inl s ↦ s
      | inr s ↦ (let by : ExitsBy log p = exit_by log p r.0 in
          absurd (exit_stands_last image start [] schedule by.made q ran has.runs (subst Distinct (sym is) once) by.is (subst (Among by.made) (sym calls) by.among)
          (subst (λ (x : Pos). Stands (map place_at (events image start schedule)) x q) (sym by.place) (subst (λ (xs : List Pos). Stands xs p q) (sym is) s))))
    ]))

-- ---- the counted steps of a schedule that has the log

record CountedPart (ended : End) (schedule : List ℕ) : Type 0 where
  pub counted : List ℕ
  pub whole : schedule ≡ counted ++ faulting ended

end_halt : (h : Option Halt) (all : Bool) (t : ℕ) (fault : Cause) → end_by h all ≡ end.Faulted t fault → h ≡ Some (halt.Faulted t fault)
end_halt (Some (halt.Exited u code)) all t fault e = absurd (exited_faulted u code t fault e) where
  exited_faulted : (u code t : ℕ) (fault : Cause) → end.Exited u code ≡ end.Faulted t fault → ⊥
  exited_faulted u code t fault f = cc
end_halt (Some (halt.Faulted u other)) all t fault e = same_halt u t other fault e where
  same_halt : (u t : ℕ) (other fault : Cause) → end.Faulted u other ≡ end.Faulted t fault → Some (halt.Faulted u other) ≡ Some (halt.Faulted t fault)
  same_halt u t other fault f = cc
end_halt None true t fault e = absurd (done_faulted t fault e) where
  done_faulted : (t : ℕ) (fault : Cause) → end.AllDone ≡ end.Faulted t fault → ⊥
  done_faulted t fault f = cc
end_halt None false t fault e = absurd (cut_faulted t fault e) where
  cut_faulted : (t : ℕ) (fault : Cause) → end.Cut ≡ end.Faulted t fault → ⊥
  cut_faulted t fault f = cc

counted_part : (image : Layout) (log : Log) (schedule : List ℕ) → HasLog image log schedule → (ended : End) → log.end ≡ ended → CountedPart ended schedule
counted_part image log schedule has (end.Faulted t fault) e =
    let start : State = opening image (tape_of log) in
    let last : State = final image start schedule in
    let halted : last.core.halt ≡ Some (halt.Faulted t fault) =
    end_halt last.core.halt (list_all is_some last.core.calls.ended) t fault (sym (end_run last (events image start schedule) log has.log_is) ∙ e) in
    let ends : EndsIn t schedule = fault_ends image start [] schedule t fault (opening_ran image (tape_of log)) has.runs refl halted in
    record { counted = ends.0; whole = ends.1 }
counted_part image log schedule has (end.Exited t code) e = record { counted = schedule; whole = sym (append-nil schedule) }
counted_part image log schedule has end.AllDone e = record { counted = schedule; whole = sym (append-nil schedule) }
counted_part image log schedule has end.Cut e = record { counted = schedule; whole = sym (append-nil schedule) }

last_times : (ended : End) (u : ℕ) → times u (faulting ended) ≡ length (last_fault ended u)
last_times (end.Faulted thread fault) u = by_test (nat_eq thread u) where
  by_test : (b : Bool) → cond b 1 0 ≡ length (cond b (note.Faulted fault ∷ []) [])
  by_test true = refl
  by_test false = refl
last_times (end.Exited thread code) u = refl
last_times end.AllDone u = refl
last_times end.Cut u = refl

keeps_left : (R : Pos → Pos → Type 0) (xs ys : List Pos) → Keeps R (xs ++ ys) → Keeps R xs
keeps_left R [] ys keeps = tt
keeps_left R (x ∷ xs) ys keeps = (λ (q : Pos) (i : In q xs) (r : R q x). keeps.0 q (in_left q xs ys i) r, keeps_left R xs ys keeps.1)

pub logged_woven : LoggedIsWoven
logged_woven image log walk schedule chosen pairs is fit has counted within =
    let part : CountedPart log.end schedule = counted_part image log schedule has log.end refl in
    let list : List Pos = places part.counted in
    let tail : List Pos = places_after (done_after [] part.counted) (faulting log.end) in
    let whole : places schedule ≡ list ++ tail = ap places part.whole ∙ places-append [] part.counted (faulting log.end) in
    let total : Total (told log walk) [] schedule = has_total image log walk schedule is has in
    let steps : (u : ℕ) → times u part.counted ≡ (logged log u).steps = λ (u : ℕ).
    let all : times u schedule ≡ times u part.counted + times u (faulting log.end) = ap (times u) part.whole ∙ times-append u part.counted (faulting log.end) in
    let many : (told log walk).steps u ≡ length (notes_of walk u) + length (last_fault log.end u) = length-append (notes_of walk u) (last_fault log.end u) in
    omega (arith, total u, all, many, notes_are image log walk is u, last_times log.end u) in
    let there : (p : Pos) → Counted log p → In p list =
    λ (p : Pos) (c : Counted log p). place_in [] part.counted p (omega arith) (omega (arith, c, steps p.thread)) in
    let up : (p q : Pos) → Stands list p q → Stands (places schedule) p q =
    λ (p q : Pos) (s : Stands list p q). subst (λ (xs : List Pos). Stands xs p q) (sym whole) (stands_left p q list tail s) in
    let once : Distinct (places schedule) = distinct_places [] schedule in
    record {
      counted = part.counted;
      whole = part.whole;
      steps = steps;
      recorded = keeps_left (RecordedOrder log) list tail (subst (Keeps (RecordedOrder log)) whole (run_keeps image log schedule has));
      paired = λ (p q : Pos) (pair : Contains pairs (p, q)).
          let in_order : In p chosen × In q chosen × Decides schedule p q = within p q pair in
          elim (stands_or p q list (there p (counted p in_order.0)) (there q (counted q in_order.1))
          (λ (e : p ≡ q). stands_once p (places schedule) once (subst (Stands (places schedule) p) (sym e) in_order.2))) [
            | inl s ↦ s
            | inr s ↦ absurd (stands_once p (places schedule) once (stands_then p q p (places schedule) once in_order.2 (up q p s)))
          ];
      exit_last = run_exits image log schedule has;
    }

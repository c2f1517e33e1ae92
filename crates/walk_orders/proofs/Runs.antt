-- Along a run each thread takes its steps one after the other, records stand in order, and a spawn before each step of the
-- thread that it makes.
use Rattle.std.specs.Prelude.{◌≡◌, ℕ, zero, suc, ◌+◌, ◌-◌, ◌<◌, ◌≤◌, ◌⊎◌, Bool, true, false, cond, List, [], ◌∷◌, length, map, nat_eq, slice_get, Option, Some, None, is_some, is_none, refl}
use Rattle.std.specs.List.{list_all}
use Rattle.std.proofs.Common.{sym, ◌∙◌, ap, subst, arith, inl, inr, ltb, eqb, eq-eqb}
use Rattle.std.proofs.lemmas.Bool.{eqb-true, ltb-true, ltb-false, false≢true}
use Rattle.std.proofs.lemmas.List.{get_or_past, length-append}
use Rattle.std.proofs.lemmas.Option.{none-some, same_Some}
use Rattle.elf_image.specs.declared.write.Write.{Write}
use Rattle.elf_image.specs.Layout.{Layout}
use Rattle.odr_log.specs.declared.log.Cause.{Cause}
use Rattle.odr_log.specs.declared.log.Call.{Call}
use Rattle.odr_log.specs.declared.log.Call.TheVariants as call
use Rattle.odr_log.specs.declared.log.CallRec.{CallRec}
use Rattle.odr_log.specs.declared.log.End.{End}
use Rattle.odr_log.specs.declared.log.Log.{Log}
use Rattle.odr_log.specs.declared.log.Pos.{Pos}
use Rattle.odr_log.specs.declared.log.ThreadLog.{ThreadLog}
use Rattle.odr_log.specs.Tape.{tape_of}
use Rattle.rv_model.specs.declared.state.Local.{Local}
use Rattle.rv_model.specs.declared.state.Thread.{Thread}
use Rattle.rv_model.specs.declared.state.Core.{Core}
use Rattle.rv_model.specs.declared.state.Halt.{Halt}
use Rattle.rv_model.specs.declared.state.Halt.TheVariants as halt
use Rattle.rv_model.specs.declared.state.Event.{Event}
use Rattle.rv_model.specs.declared.state.Note.{Note}
use Rattle.rv_model.specs.declared.state.Note.TheVariants as note
use Rattle.rv_model.specs.declared.state.State.{State}
use Rattle.rv_model.specs.declared.state.Stepped.{Stepped}
use Rattle.rv_model.specs.declared.hearing.Outcome.{Outcome}
use Rattle.rv_model.specs.declared.hearing.Outcome.TheVariants.{Faults, Goes}
use Rattle.rv_model.specs.Thread.{no_thread}
use Rattle.rv_model.specs.Calls.{made}
use Rattle.rv_model.specs.Step.{opening, memory_of, thread_at, child_of, halt_then, applied, gone, after_effect, step, is_enabled}
use Rattle.rv_model.specs.Run.{Runs, final, events, event_of, record_in, records_of, cons_some, thread_logs, log_of, HasLog, logged, nothing_logged, end_by, end_of}
use Rattle.rv_model.specs.Walk.{Walk, notes_of, IsWalk}
use Rattle.rv_model.specs.RecordedOrder.{Counted, Edge, InThread, ByCalls, BySpawn, CountedEdge, RecordedOrder}
use Rattle.rv_model.proofs.Progress.{own_then, other_then}
use Rattle.rv_model.proofs.Bounds.{beyond, child_zero}
use Rattle.rv_model.proofs.Difference.{enabled_within, enabled_goes}
use Rattle.rv_model.proofs.LogParts.{length-thread_logs, thread_logs-at}
use Rattle.guided_walk.specs.Told.{told, last_fault, place_of}
use Rattle.guided_walk.specs.Orders.{In, Keeps, Stands}
use Rattle.guided_walk.specs.Schedules.{count, next_of, places_after, places, times}
use Rattle.guided_walk.proofs.Along.{After, Next, outcome_by, reserving_by, step_is, MakesNext, MakesOne, MakesNone, many_then, more_then}
use Rattle.guided_walk.proofs.LoggedRun.{Total, makes_by}
use Rattle.guided_walk.proofs.Placing.{distinct_places, place_in}
use Rattle.guided_walk.proofs.Records.{Among, among_at, rec}
use Rattle.guided_walk.proofs.ScheduleLaw.{notes_are}
use Rattle.walk_orders.proofs.Lists.{keeps_standing}
use Rattle.walk_orders.proofs.Steps.{places_rise}
use Rattle.walk_orders.proofs.Exits.{contains_among}
use Rattle.walk_orders.proofs.Weaving.{stands_recorded}

-- ---- how many steps of a thread

-- one for the thread whose fault halted the machine
abbrev pub fell : ℕ → Option Halt → ℕ
fell u None = 0
fell u (Some (halt.Exited t code)) = 0
fell u (Some (halt.Faulted t fault)) = cond (nat_eq t u) 1 0

-- how many steps a thread has retired, and its fault
abbrev Taken : ℕ → Core → ℕ
Taken u core = (thread_at core u).retired + fell u core.halt

-- the retired steps of a thread after a step that goes on
retired_by : (core : Core) (t u : ℕ) (reservation : Option ℕ) (local : Local) (writes : List Write) (shown : Note) → t < length core.threads
    → (within : Bool) → ltb u (length core.threads) ≡ within → (same : Bool) → eqb t u ≡ same
    → (thread_at (gone core t reservation local writes shown).core u).retired ≡ cond same ((thread_at core u).retired + 1) (thread_at core u).retired
retired_by core t u reservation local writes shown there true w true s =
    let one : t ≡ u = eqb-true t u s in
    subst (λ (k : ℕ). (thread_at (gone core t reservation local writes shown).core k).retired ≡ (thread_at core k).retired + 1) one
    (ap (λ (x : Thread). x.retired) (own_then t writes core.threads (child_of (thread_at core t).local shown) (After core t reservation local) there))
retired_by core t u reservation local writes shown there true w false s =
    ap (λ (x : Thread). x.retired)
    (other_then t u writes core.threads (child_of (thread_at core t).local shown) (After core t reservation local) (ltb-true u (length core.threads) w)
    (λ (e : u ≡ t). false≢true (sym s ∙ eq-eqb t u (sym e))))
retired_by core t u reservation local writes shown there false w true s =
    absurd (omega (arith, there, eqb-true t u s, ltb-false u (length core.threads) w))
retired_by core t u reservation local writes shown there false w false s =
    let past : length core.threads ≤ u = ltb-false u (length core.threads) w in
    ap (λ (x : Thread). x.retired) (beyond t u writes core.threads (child_of (thread_at core t).local shown) (After core t reservation local) past)
    ∙ child_zero (thread_at core t).local shown (u - length core.threads)
    ∙ sym (ap (λ (x : Thread). x.retired) (get_or_past core.threads u no_thread past))

pub not_fell : (u t : ℕ) (n : Note) → fell u (halt_then t n) ≡ 0
not_fell u t (note.Called (call.Exit code)) = refl
not_fell u t (note.Faulted fault) = refl
not_fell u t note.Nothing = refl
not_fell u t (note.Branch taken) = refl
not_fell u t (note.Jump target) = refl
not_fell u t (note.Called call.EndThread) = refl
not_fell u t (note.Called (call.Spawn entry child)) = refl
not_fell u t (note.Called (call.Join target ok)) = refl
not_fell u t (note.Called (call.Lock mutex ok)) = refl
not_fell u t (note.Called (call.Unlock mutex ok)) = refl
not_fell u t (note.Called (call.TryLock mutex got)) = refl
not_fell u t (note.Called (call.Write bytes)) = refl
not_fell u t (note.Called call.WriteBad) = refl
not_fell u t (note.Called (call.Read want bytes)) = refl
not_fell u t (note.Called call.ReadBad) = refl
not_fell u t (note.Called call.SelfId) = refl
not_fell u t (note.Called call.Yield) = refl
not_fell u t (note.Called (call.Unknown number)) = refl

none_fell : (u : ℕ) (h : Option Halt) → is_none h ≡ true → fell u h ≡ 0
none_fell u None e = refl
none_fell u (Some h) e = absurd (false≢true e)

cond_add : (b : Bool) (x y : ℕ) → y ≡ 0 → cond b (x + 1) x + y ≡ x + cond b 1 0
cond_add true x y e = omega (arith, e)
cond_add false x y e = omega (arith, e)

-- a step of a thread takes one step more of that thread
taken_by : (core : Core) (t u : ℕ) (reservation : Option ℕ) (o : Outcome) → t < length core.threads → is_none core.halt ≡ true
    → Taken u (applied core t reservation o).core ≡ (thread_at core u).retired + cond (nat_eq t u) 1 0
taken_by core t u reservation (Faults fault) there running = refl
taken_by core t u reservation (Goes local writes shown) there running =
    ap (λ (n : ℕ). n + fell u (halt_then t shown)) (retired_by core t u reservation local writes shown there (ltb u (length core.threads)) refl (eqb t u) refl)
    ∙ cond_add (eqb t u) (thread_at core u).retired (fell u (halt_then t shown)) (not_fell u t shown)

taken_step : (image : Layout) (state : State) (t u : ℕ) → is_enabled image state t ≡ true
    → Taken u (step image state t).state.core ≡ (thread_at state.core u).retired + cond (nat_eq t u) 1 0
taken_step image state t u enabled =
    ap (λ (s : Stepped). Taken u s.state.core) (step_is image state t)
    ∙ taken_by state.core t u (reserving_by image (thread_at state.core t)) (outcome_by image (memory_of image state) state.core.calls t (thread_at state.core t))
    (enabled_within image state t enabled) (enabled_goes image state t enabled)

times_cons : (b : Bool) (x n : ℕ) → x + cond b 1 0 + n ≡ x + cond b (suc n) n
times_cons true x n = omega arith
times_cons false x n = omega arith

-- a run takes as many steps of a thread as its schedule lists
pub taken_run : (image : Layout) (state : State) (schedule : List ℕ) (u : ℕ) → is_none state.core.halt ≡ true → Runs image state schedule
    → Taken u (final image state schedule).core ≡ (thread_at state.core u).retired + times u schedule
taken_run image state [] u running runs = ap (λ (n : ℕ). (thread_at state.core u).retired + n) (none_fell u state.core.halt running)
taken_run image state (t ∷ []) u running runs =
    taken_step image state t u runs.0 ∙ (let e : (thread_at state.core u).retired + cond (nat_eq t u) 1 0 ≡ (thread_at state.core u).retired + cond (nat_eq t u) 1 0 + 0 = omega arith in e)
    ∙ times_cons (nat_eq t u) (thread_at state.core u).retired 0
taken_run image state (t ∷ next ∷ schedule) u running runs =
    let after : State = (step image state t).state in
    let goes : is_none after.core.halt ≡ true = enabled_goes image after next runs.1.0 in
    let here : (thread_at after.core u).retired + fell u after.core.halt ≡ (thread_at state.core u).retired + cond (nat_eq t u) 1 0 = taken_step image state t u runs.0 in
    let none : fell u after.core.halt ≡ 0 = none_fell u after.core.halt goes in
    taken_run image after (next ∷ schedule) u goes runs.1
    ∙ (let e : (thread_at after.core u).retired + times u (next ∷ schedule) ≡ (thread_at state.core u).retired + cond (nat_eq t u) 1 0 + times u (next ∷ schedule) = omega (arith, here, none) in e)
    ∙ times_cons (nat_eq t u) (thread_at state.core u).retired (times u (next ∷ schedule))

-- ---- the log of the run

last_fell : (u : ℕ) (h : Option Halt) (all : Bool) → length (last_fault (end_by h all) u) ≡ fell u h
last_fell u (Some (halt.Exited t code)) all = refl
last_fell u (Some (halt.Faulted t fault)) all = by_test (nat_eq t u) where
  by_test : (b : Bool) → length (cond b (note.Faulted fault ∷ []) []) ≡ cond b 1 0
  by_test true = refl
  by_test false = refl
last_fell u None true = refl
last_fell u None false = refl

logged_run : (state : State) (happened : List Event) (log : Log) (u : ℕ) → log_of state happened ≡ log → (within : Bool) → ltb u (length state.core.threads) ≡ within
    → (logged log u).steps ≡ (thread_at state.core u).retired
unfolding log_of
logged_run state happened log u is true w =
    let there : u < length state.core.threads = ltb-true u (length state.core.threads) w in
    ap (λ (l : Log). (logged l u).steps) (sym is) ∙ ap (λ (t : ThreadLog). t.steps) (thread_logs-at 0 u u state.core.threads happened nothing_logged there (omega arith))
logged_run state happened log u is false w =
    let past : length state.core.threads ≤ u = ltb-false u (length state.core.threads) w in
    ap (λ (l : Log). (logged l u).steps) (sym is)
    ∙ ap (λ (t : ThreadLog). t.steps) (get_or_past (thread_logs 0 state.core.threads happened) u nothing_logged (omega (arith, past, length-thread_logs 0 state.core.threads happened)))
    ∙ sym (ap (λ (x : Thread). x.retired) (get_or_past state.core.threads u no_thread past))

pub end_run : (state : State) (happened : List Event) (log : Log) → log_of state happened ≡ log → log.end ≡ end_of state.core
unfolding log_of
end_run state happened log is = ap (λ (l : Log). l.end) (sym is)

first_retired : (image : Layout) (tape : List ℕ) (u : ℕ) → (thread_at (opening image tape).core u).retired ≡ 0
first_retired image tape zero = refl
first_retired image tape (suc u) = refl

-- a schedule that has the log lists each thread as often as it is told steps
pub has_total : (image : Layout) (log : Log) (walk : Walk) (schedule : List ℕ) → IsWalk image log walk → HasLog image log schedule → Total (told log walk) [] schedule
has_total image log walk schedule is has u =
    let start : State = opening image (tape_of log) in
    let last : State = final image start schedule in
    let taken : Taken u last.core ≡ (thread_at start.core u).retired + times u schedule = taken_run image start schedule u refl has.runs in
    let steps : (logged log u).steps ≡ (thread_at last.core u).retired = logged_run last (events image start schedule) log u has.log_is (ltb u (length last.core.threads)) refl in
    let ended : length (last_fault log.end u) ≡ fell u last.core.halt =
    ap (λ (e : End). length (last_fault e u)) (end_run last (events image start schedule) log has.log_is)
    ∙ last_fell u last.core.halt (list_all is_some last.core.calls.ended) in
    omega (arith, taken, first_retired image (tape_of log) u, steps, ended, length-append (notes_of walk u) (last_fault log.end u), notes_are image log walk is u)

-- ---- the steps of a run

-- After steps each thread has retired those that it took, and the threads are those that were made.
pub record Ran (done : List Pos) (state : State) : Type 0 where
  pub retired : (u : ℕ) → (thread_at state.core u).retired ≡ count u done
  pub many : length state.core.threads ≡ made state.core.calls

pub opening_ran : (image : Layout) (tape : List ℕ) → Ran [] (opening image tape)
opening_ran image tape = record { retired = first_retired image tape; many = refl }

-- a step faults, and the machine halts, or it goes on
pub data StepOf (image : Layout) (state : State) (done : List Pos) (t : ℕ) : Type 0 where
  Stops : {fault : Cause} → (step image state t).note ≡ note.Faulted fault → (step image state t).state.core.halt ≡ Some (halt.Faulted t fault) → StepOf image state done t
  Moves : Ran (Next t done) (step image state t).state → MakesNext (length state.core.threads) (step image state t).note
      → length state.core.threads ≤ length (step image state t).state.core.threads → (step image state t).state.core.halt ≡ halt_then t (step image state t).note
      → StepOf image state done t

one_more : (b : Bool) (n k : ℕ) → n ≡ k → cond b (n + 1) n ≡ cond b (suc k) k
one_more true n k e = omega (arith, e)
one_more false n k e = e

step_of_by : (image : Layout) (state : State) (done : List Pos) (t : ℕ) → Ran done state → t < length state.core.threads → (o : Outcome)
    → outcome_by image (memory_of image state) state.core.calls t (thread_at state.core t) ≡ o → StepOf image state done t
step_of_by image state done t ran there (Faults fault) e =
    let is : step image state t ≡ after_effect state (applied state.core t (reserving_by image (thread_at state.core t)) (Faults fault)) =
    step_is image state t ∙ ap (λ (o : Outcome). after_effect state (applied state.core t (reserving_by image (thread_at state.core t)) o)) e in
    Stops {fault = fault} (ap (λ (s : Stepped). s.note) is) (ap (λ (s : Stepped). s.state.core.halt) is)
step_of_by image state done t ran there (Goes local writes shown) e =
    let thread : Thread = thread_at state.core t in
    let reservation : Option ℕ = reserving_by image thread in
    let is : step image state t ≡ after_effect state (gone state.core t reservation local writes shown) =
    step_is image state t ∙ ap (λ (o : Outcome). after_effect state (applied state.core t reservation o)) e in
    let makes : MakesNext (length state.core.threads) shown = makes_by image state t local writes shown ran.many e in
    let after : Ran (Next t done) (after_effect state (gone state.core t reservation local writes shown)).state = record {
      retired = λ (u : ℕ).
          retired_by state.core t u reservation local writes shown there (ltb u (length state.core.threads)) refl (eqb t u) refl
          ∙ one_more (eqb t u) (thread_at state.core u).retired (count u done) (ran.retired u);
      many = many_then state.core t reservation local writes shown makes ran.many;
    } in
    Moves (subst (λ (s : Stepped). Ran (Next t done) s.state) (sym is) after)
    (subst (λ (s : Stepped). MakesNext (length state.core.threads) s.note) (sym is) makes)
    (subst (λ (s : Stepped). length state.core.threads ≤ length s.state.core.threads) (sym is) (more_then state.core t reservation local writes shown makes))
    (subst (λ (s : Stepped). s.state.core.halt ≡ halt_then t s.note) (sym is) refl)

pub step_of : (image : Layout) (state : State) (done : List Pos) (t : ℕ) → Ran done state → is_enabled image state t ≡ true → StepOf image state done t
step_of image state done t ran enabled =
    step_of_by image state done t ran (enabled_within image state t enabled) (outcome_by image (memory_of image state) state.core.calls t (thread_at state.core t)) refl

-- nothing runs after a halt
pub halted_rest : (image : Layout) (state : State) (schedule : List ℕ) → Runs image state schedule → is_none state.core.halt ≡ false → schedule ≡ []
halted_rest image state [] runs halted = refl
halted_rest image state (t ∷ schedule) runs halted = absurd (false≢true (sym halted ∙ enabled_goes image state t runs.0))

abbrev pub place_at : Event → Pos
place_at event = record { thread = event.thread; step = event.at }

-- the events of a run stand at the places of its schedule
pub run_places : (image : Layout) (state : State) (done : List Pos) (schedule : List ℕ) → Ran done state → Runs image state schedule → map place_at (events image state schedule) ≡ places_after done schedule
run_places image state done [] ran runs = refl
run_places image state done (t ∷ schedule) ran runs =
    let next : State = (step image state t).state in
    ap (λ (k : ℕ). (let p : Pos = record { thread = t; step = k } in p) ∷ map place_at (events image next schedule)) (ran.retired t)
    ∙ ap (λ (ps : List Pos). next_of t done ∷ ps) (rest (step_of image state done t ran runs.0) (λ (r : Ran (Next t done) next). run_places image next (Next t done) schedule r runs.1)) where
      rest : StepOf image state done t → (Ran (Next t done) (step image state t).state → map place_at (events image (step image state t).state schedule) ≡ places_after (Next t done) schedule)
          → map place_at (events image (step image state t).state schedule) ≡ places_after (Next t done) schedule
      rest (Stops shows halted) again =
          subst (λ (s : List ℕ). map place_at (events image (step image state t).state s) ≡ places_after (Next t done) s) (sym (halted_rest image (step image state t).state schedule runs.1 (ap is_none halted))) refl
      rest (Moves after makes more halts) again = again after

-- ---- the records of events

pub record_place : (t at : ℕ) (n : Note) (r : CallRec) → record_in (let e : Event = record { thread = t; at = at; note = n } in e) ≡ Some r → (place_of r ≡ (let p : Pos = record { thread = t; step = at } in p)) × (n ≡ note.Called r.call)
record_place t at (note.Called made) r e = (ap place_of (sym (same_Some (rec t at made) r e)), ap (λ (x : CallRec). note.Called x.call) (same_Some (rec t at made) r e))
record_place t at note.Nothing r e = absurd (none-some r e)
record_place t at (note.Branch taken) r e = absurd (none-some r e)
record_place t at (note.Jump target) r e = absurd (none-some r e)
record_place t at (note.Faulted fault) r e = absurd (none-some r e)

pub record_in_by : (e : Event) (later : List Event) (r : CallRec) → (o : Option CallRec) → record_in e ≡ o → Among r (cons_some o (records_of later)) → ((record_in e ≡ Some r) ⊎ Among r (records_of later))
record_in_by e later r None is has = inr has
record_in_by e later r (Some x) is (inl same) = inl (is ∙ ap (λ (y : CallRec). Some y) same)
record_in_by e later r (Some x) is (inr has) = inr has

pub record_placed : (es : List Event) (r : CallRec) → Among r (records_of es) → In (place_of r) (map place_at es)
record_placed [] r has = absurd has
record_placed (e ∷ es) r has = elim (record_in_by e es r (record_in e) refl has) [
  | inl here ↦ inl (sym (record_place e.thread e.at e.note r here).0)
  | inr later ↦ inr (record_placed es r later)
]

records_stand_by : (e : Event) (es : List Event) (m n : ℕ) (r s : CallRec) → (o : Option CallRec) → record_in e ≡ o → slice_get (cons_some o (records_of es)) m ≡ Some r
    → slice_get (cons_some o (records_of es)) n ≡ Some s → m < n
    → ((i j : ℕ) → slice_get (records_of es) i ≡ Some r → slice_get (records_of es) j ≡ Some s → i < j → Stands (map place_at es) (place_of r) (place_of s))
    → Stands (map place_at (e ∷ es)) (place_of r) (place_of s)
records_stand_by e es m n r s None is p q less rest = inr (rest m n p q less)
records_stand_by e es zero zero r s (Some x) is p q less rest = absurd (omega (arith, less))
records_stand_by e es zero (suc n) r s (Some x) is p q less rest =
    inl (sym (record_place e.thread e.at e.note r (is ∙ p)).0, record_placed es s (among_at (records_of es) n s q))
records_stand_by e es (suc m) zero r s (Some x) is p q less rest = absurd (omega (arith, less))
records_stand_by e es (suc m) (suc n) r s (Some x) is p q less rest = inr (rest m n p q (omega (arith, less)))

pub records_stand : (es : List Event) (m n : ℕ) (r s : CallRec) → slice_get (records_of es) m ≡ Some r → slice_get (records_of es) n ≡ Some s → m < n
    → Stands (map place_at es) (place_of r) (place_of s)
records_stand [] m n r s p q less = absurd (none-some r p)
records_stand (e ∷ es) m n r s p q less = records_stand_by e es m n r s (record_in e) refl p q less (λ (i j : ℕ). records_stand es i j r s)

-- ---- a spawn stands before each step of the thread that it makes

same_child : (a b u v : ℕ) → note.Called (call.Spawn a (Some u)) ≡ note.Called (call.Spawn b (Some v)) → u ≡ v
same_child a b u v e = cc

one_child : (x : Thread) (xs : List Thread) → x ∷ xs ≡ [] → ⊥
one_child x xs e = absurd (let n : suc (length xs) ≡ 0 = ap (length {A = Thread}) e in omega (arith, n))

child_next : (n : ℕ) (shown : Note) (entry u : ℕ) → MakesNext n shown → shown ≡ note.Called (call.Spawn entry (Some u)) → u ≡ n
child_next n shown entry u (MakesOne {entry = other} {child = child} is next) e = same_child entry other u child (sym e ∙ is) ∙ next
child_next n shown entry u (MakesNone none same) e =
    absurd (one_child _ [] (ap (child_of no_thread.local) (sym e) ∙ none no_thread.local))

-- the child of a later spawn is no thread yet, and has no step before it
pub record Spawned (threads : ℕ) (steps : List Pos) (spawn : Pos) (u : ℕ) : Type 0 where
  pub past : threads ≤ u
  pub stands : (q : Pos) → In q steps → q.thread ≡ u → Stands steps spawn q

pub faulted_called : (fault : Cause) (c : Call) → note.Faulted fault ≡ note.Called c → ⊥
faulted_called fault c e = cc

-- of the first step of a run, and of a later one

spawned_now : (threads t at : ℕ) (steps : List Pos) (r : CallRec) (u : ℕ) → t < threads → u ≡ threads → place_of r ≡ (let p : Pos = record { thread = t; step = at } in p)
    → Spawned threads ((let p : Pos = record { thread = t; step = at } in p) ∷ steps) (place_of r) u
spawned_now threads t at steps r u there is place = record {
  past = omega (arith, is);
  stands = λ (q : Pos) (i : In q ((let p : Pos = record { thread = t; step = at } in p) ∷ steps)) (own : q.thread ≡ u). elim i [
    | inl e ↦ absurd (omega (arith, there, is, own, ap (λ (x : Pos). x.thread) e))
    | inr j ↦ inl (sym place, j)
  ];
}

spawned_later : (threads more t at : ℕ) (steps : List Pos) (r : CallRec) (u : ℕ) → t < threads → threads ≤ more → Spawned more steps (place_of r) u
    → Spawned threads ((let p : Pos = record { thread = t; step = at } in p) ∷ steps) (place_of r) u
spawned_later threads more t at steps r u there grows later = record {
  past = omega (arith, grows, later.past);
  stands = λ (q : Pos) (i : In q ((let p : Pos = record { thread = t; step = at } in p) ∷ steps)) (own : q.thread ≡ u). elim i [
    | inl e ↦ absurd (omega (arith, there, grows, later.past, own, ap (λ (x : Pos). x.thread) e))
    | inr j ↦ inr (later.stands q j own)
  ];
}

pub run_spawns : (image : Layout) (state : State) (done : List Pos) (schedule : List ℕ) (r : CallRec) (entry u : ℕ) → Ran done state → Runs image state schedule
    → r.call ≡ call.Spawn entry (Some u) → Among r (records_of (events image state schedule)) → Spawned (length state.core.threads) (map place_at (events image state schedule)) (place_of r) u
run_spawns image state done [] r entry u ran runs is has = absurd has
run_spawns image state done (t ∷ schedule) r entry u ran runs is has =
    by_step (step_of image state done t ran runs.0) (record_in_by (event_of image state t) (events image next schedule) r (record_in (event_of image state t)) refl has)
    (λ (after : Ran (Next t done) next) (later : Among r (records_of (events image next schedule))). run_spawns image next (Next t done) schedule r entry u after runs.1 is later) where
      next : State
      next = (step image state t).state

      head : Event
      head = event_of image state t

      there : t < length state.core.threads
      there = enabled_within image state t runs.0

      shown : record_in head ≡ Some r → head.note ≡ note.Called (call.Spawn entry (Some u))
      shown here = (record_place head.thread head.at head.note r here).1 ∙ ap (λ (c : Call). note.Called c) is

      by_step : StepOf image state done t → (record_in head ≡ Some r) ⊎ Among r (records_of (events image next schedule))
          → (Ran (Next t done) next → Among r (records_of (events image next schedule)) → Spawned (length next.core.threads) (map place_at (events image next schedule)) (place_of r) u)
          → Spawned (length state.core.threads) (map place_at (events image state (t ∷ schedule))) (place_of r) u
      by_step (Stops {fault = fault} shows halted) (inl here) again = absurd (faulted_called fault (call.Spawn entry (Some u)) (sym shows ∙ shown here))
      by_step (Stops shows halted) (inr later) again =
          absurd (subst (λ (s : List ℕ). Among r (records_of (events image next s))) (halted_rest image next schedule runs.1 (ap is_none halted)) later)
      by_step (Moves after makes more halts) (inl here) again =
          spawned_now (length state.core.threads) t head.at (map place_at (events image next schedule)) r u there (child_next (length state.core.threads) head.note entry u makes (shown here))
          (record_place head.thread head.at head.note r here).0
      by_step (Moves after makes more halts) (inr later) again =
          spawned_later (length state.core.threads) (length next.core.threads) t head.at (map place_at (events image next schedule)) r u there more (again after later)

-- ---- a schedule that has a log keeps its recorded order

pub calls_run : (state : State) (happened : List Event) (log : Log) → log_of state happened ≡ log → records_of happened ≡ log.calls
unfolding log_of
calls_run state happened log is = ap (λ (l : Log). l.calls) is

-- each counted step is one of the run
pub counted_in : (image : Layout) (log : Log) (schedule : List ℕ) → HasLog image log schedule → (p : Pos) → Counted log p → In p (places schedule)
counted_in image log schedule has p counted =
    let u : ℕ = p.thread in
    let start : State = opening image (tape_of log) in
    let last : State = final image start schedule in
    let taken : Taken u last.core ≡ (thread_at start.core u).retired + times u schedule = taken_run image start schedule u refl has.runs in
    let steps : (logged log u).steps ≡ (thread_at last.core u).retired = logged_run last (events image start schedule) log u has.log_is (ltb u (length last.core.threads)) refl in
    place_in [] schedule p (omega arith) (omega (arith, counted, taken, first_retired image (tape_of log) u, steps))

edge_stands : (image : Layout) (log : Log) (schedule : List ℕ) → HasLog image log schedule → (p q : Pos) → CountedEdge log p q → Edge log p q → Stands (places schedule) p q
edge_stands image log schedule has p q edge (InThread same less) =
    places_rise [] schedule p q (counted_in image log schedule has p edge.from) (counted_in image log schedule has q edge.to) same less
edge_stands image log schedule has p q edge (ByCalls {earlier = m} {later = n} a b less) =
    let start : State = opening image (tape_of log) in
    let calls : records_of (events image start schedule) ≡ log.calls = calls_run (final image start schedule) (events image start schedule) log has.log_is in
    subst (λ (ps : List Pos). Stands ps p q) (run_places image start [] schedule (opening_ran image (tape_of log)) has.runs)
    (records_stand (events image start schedule) m n (rec p.thread p.step a.made) (rec q.thread q.step b.made)
    (ap (λ (rs : List CallRec). slice_get rs m) calls ∙ a.is) (ap (λ (rs : List CallRec). slice_get rs n) calls ∙ b.is) less)
edge_stands image log schedule has p q edge (BySpawn {entry = entry} spawns) =
    let start : State = opening image (tape_of log) in
    let r : CallRec = rec p.thread p.step (call.Spawn entry (Some q.thread)) in
    let calls : records_of (events image start schedule) ≡ log.calls = calls_run (final image start schedule) (events image start schedule) log has.log_is in
    let is : map place_at (events image start schedule) ≡ places schedule = run_places image start [] schedule (opening_ran image (tape_of log)) has.runs in
    let spawned : Spawned 1 (map place_at (events image start schedule)) p q.thread =
    run_spawns image start [] schedule r entry q.thread (opening_ran image (tape_of log)) has.runs refl (subst (Among r) (sym calls) (contains_among log.calls r spawns)) in
    subst (λ (ps : List Pos). Stands ps p q) is (spawned.stands q (subst (In q) (sym is) (counted_in image log schedule has q edge.to)) refl)

pub run_stands : (image : Layout) (log : Log) (schedule : List ℕ) → HasLog image log schedule → (p q : Pos) → RecordedOrder log p q → Stands (places schedule) p q
run_stands image log schedule has p q order =
    stands_recorded log (places schedule) (distinct_places [] schedule) (λ (x y : Pos) (e : CountedEdge log x y). edge_stands image log schedule has x y e e.edge) order

pub run_keeps : (image : Layout) (log : Log) (schedule : List ℕ) → HasLog image log schedule → Keeps (RecordedOrder log) (places schedule)
run_keeps image log schedule has =
    keeps_standing (RecordedOrder log) (places schedule) (distinct_places [] schedule)
    (λ (p q : Pos) (i : In p (places schedule)) (j : In q (places schedule)) (r : RecordedOrder log p q). run_stands image log schedule has p q r)

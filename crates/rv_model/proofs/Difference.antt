-- There is no first difference exactly where the schedule has the log.
use Rattle.std.specs.Prelude.{◌≡◌, ◌↔◌, ℕ, suc, ◌<◌, Bool, true, false, ◌&&◌, cond, List, [], ◌∷◌, ◌++◌, length, nat_lt, slice_get, Option, Some, None, option_map, is_none, is_some, refl}
use Rattle.std.specs.List.{list_all}
use Rattle.std.proofs.Common.{sym, ◌∙◌, ap, subst, arith, eq-eqb}
use Rattle.std.proofs.lemmas.Bool.{and_parts, and_from, ltb-true, lt-ltb, false≢true}
use Rattle.std.proofs.lemmas.List.{append_assoc, append-nil}
use Rattle.elf_image.specs.Layout.{Layout}
use Rattle.odr_log.specs.declared.log.Log.{Log}
use Rattle.odr_log.specs.declared.log.ThreadLog.{ThreadLog}
use Rattle.odr_log.specs.declared.log.PathItem.{PathItem}
use Rattle.odr_log.specs.declared.log.PathItem.TheVariants as item
use Rattle.odr_log.specs.declared.log.CallRec.{CallRec}
use Rattle.odr_log.specs.declared.log.End.TheVariants as end
use Rattle.odr_log.specs.Tape.{tape_of}
use Rattle.odr_log.specs.Same.{same_item, same_rec, same_end, same_log}
use Rattle.odr_log.specs.SameLaws.{same_item-exact, same_rec-exact, same_end-exact, same_log-exact}
use Rattle.rv_model.specs.declared.state.Core.{Core}
use Rattle.rv_model.specs.declared.state.State.{State}
use Rattle.rv_model.specs.declared.state.Halt.{Halt}
use Rattle.rv_model.specs.declared.state.Halt.TheVariants as halt
use Rattle.rv_model.specs.declared.state.Note.{Note}
use Rattle.rv_model.specs.declared.state.Note.TheVariants as note
use Rattle.rv_model.specs.declared.state.Event.{Event}
use Rattle.rv_model.specs.declared.hearing.Outcome.{Outcome}
use Rattle.rv_model.specs.declared.hearing.Outcome.TheVariants.{Faults, Goes}
use Rattle.rv_model.specs.Step.{thread_at, applied, effect, step, enabled, is_enabled, opening, memory_of, next_instr, heard_at}
use Rattle.rv_model.specs.Run.{event_of, Runs, final, events, item_of, cons_some, path_of, record_in, records_of, thread_logs, end_by, log_of, HasLog, option_test, is_counted, next_item, next_record, agrees_by, agrees, differs_from, first_diff}
use Rattle.rv_model.proofs.Progress.{Grows, gone_grows, gone_retires, IsQuiet, quiet-act_at}
use Rattle.rv_model.proofs.LogParts.{path_of-append, records_of-append, slice_get-middle, length-thread_logs, logged-at}

-- a step of a thread that is there

outcome_grows : (core : Core) (t : ℕ) (reservation : Option ℕ) (o : Outcome) → t < length core.threads → Grows core (applied core t reservation o).core
outcome_grows core t reservation (Faults fault) within = record { count = omega arith; retired = λ (u : ℕ) (w : u < length core.threads). omega arith }
outcome_grows core t reservation (Goes local writes shown) within = gone_grows core t reservation local writes shown within

pub step_grows : (image : Layout) (state : State) (t : ℕ) → t < length state.core.threads → Grows state.core (step image state t).state.core
unfolding step effect
step_grows image state t within = outcome_grows state.core t _ _ within

-- What a step's note says of the state after it: a fault halts the machine, every other step retires.
abbrev Shows : ℕ → ℕ → Core → Note → Type 0
Shows t before after (note.Faulted fault) = after.halt ≡ Some (halt.Faulted t fault)
Shows t before after note.Nothing = before < (thread_at after t).retired
Shows t before after (note.Branch taken) = before < (thread_at after t).retired
Shows t before after (note.Jump target) = before < (thread_at after t).retired
Shows t before after (note.Called call) = before < (thread_at after t).retired

shows_quiet : (t before : ℕ) (after : Core) (shown : Note) → ((fault : _) → shown ≡ note.Faulted fault → ⊥) → before < (thread_at after t).retired → Shows t before after shown
shows_quiet t before after (note.Faulted fault) quiet more = absurd (quiet fault refl)
shows_quiet t before after note.Nothing quiet more = more
shows_quiet t before after (note.Branch taken) quiet more = more
shows_quiet t before after (note.Jump target) quiet more = more
shows_quiet t before after (note.Called call) quiet more = more

outcome_shows : (core : Core) (t : ℕ) (reservation : Option ℕ) (o : Outcome) → IsQuiet o → t < length core.threads
    → Shows t (thread_at core t).retired (applied core t reservation o).core (applied core t reservation o).note
outcome_shows core t reservation (Faults fault) quiet within = refl
outcome_shows core t reservation (Goes local writes (note.Faulted fault)) quiet within = absurd quiet
outcome_shows core t reservation (Goes local writes note.Nothing) quiet within = omega (arith, gone_retires core t reservation local writes note.Nothing within)
outcome_shows core t reservation (Goes local writes (note.Branch taken)) quiet within = omega (arith, gone_retires core t reservation local writes (note.Branch taken) within)
outcome_shows core t reservation (Goes local writes (note.Jump target)) quiet within = omega (arith, gone_retires core t reservation local writes (note.Jump target) within)
outcome_shows core t reservation (Goes local writes (note.Called call)) quiet within = omega (arith, gone_retires core t reservation local writes (note.Called call) within)

step_shows : (image : Layout) (state : State) (t : ℕ) → t < length state.core.threads
    → Shows t (thread_at state.core t).retired (step image state t).state.core (step image state t).note
unfolding step effect
step_shows image state t within =
    outcome_shows state.core t _ _
    (quiet-act_at (thread_at state.core t).local (next_instr image state.core t) (heard_at image (memory_of image state) state.core t)) within

-- an enabled thread is there, in a machine that has not halted

pub enabled_within : (image : Layout) (state : State) (t : ℕ) → is_enabled image state t ≡ true → t < length state.core.threads
unfolding is_enabled enabled
enabled_within image state t e = ltb-true t (length state.core.threads) (and_parts _ _ (and_parts _ _ (and_parts _ _ e).0).0).0

pub enabled_goes : (image : Layout) (state : State) (t : ℕ) → is_enabled image state t ≡ true → is_none state.core.halt ≡ true
unfolding is_enabled enabled
enabled_goes image state t e = (and_parts _ _ (and_parts _ _ e).0).1

-- along a run

grows_same : (core : Core) → Grows core core
grows_same core = record { count = omega arith; retired = λ (u : ℕ) (w : u < length core.threads). omega arith }

grows_on : (a b c : Core) → Grows a b → Grows b c → Grows a c
grows_on a b c one two = record {
  count = omega (arith, one.count, two.count);
  retired = λ (u : ℕ) (w : u < length a.threads). omega (arith, one.retired u w, two.retired u (omega (arith, one.count)));
}

pub run_grows : (image : Layout) (state : State) (schedule : List ℕ) → Runs image state schedule → Grows state.core (final image state schedule).core
run_grows image state [] runs = grows_same state.core
run_grows image state (t ∷ schedule) runs =
    grows_on state.core (step image state t).state.core (final image (step image state t).state schedule).core
    (step_grows image state t (enabled_within image state t runs.0))
    (run_grows image (step image state t).state schedule runs.1)

halted : (o : Option Halt) (x : Halt) → o ≡ Some x → is_none o ≡ true → ⊥
halted None x e n = absurd (let f : None ≡ Some x = e in cc)
halted (Some y) x e n = false≢true n

-- after a halt nothing runs
run_halted : (image : Layout) (state : State) (schedule : List ℕ) (x : Halt) → state.core.halt ≡ Some x → Runs image state schedule → (final image state schedule).core.halt ≡ Some x
run_halted image state [] x e runs = e
run_halted image state (t ∷ schedule) x e runs = absurd (halted state.core.halt x e (enabled_goes image state t runs.0))

later : (t before : ℕ) (after end : Core) (shown : Note) → t < length after.threads → Grows after end
    → ((x : Halt) → after.halt ≡ Some x → end.halt ≡ Some x) → Shows t before after shown → Shows t before end shown
later t before after end (note.Faulted fault) within grows halts shows = halts (halt.Faulted t fault) shows
later t before after end note.Nothing within grows halts shows = omega (arith, grows.retired t within)
later t before after end (note.Branch taken) within grows halts shows = omega (arith, grows.retired t within)
later t before after end (note.Jump target) within grows halts shows = omega (arith, grows.retired t within)
later t before after end (note.Called call) within grows halts shows = omega (arith, grows.retired t within)

-- the parts of a log

counted_lt : (state : State) (happened : List Event) (t : ℕ) → t < length state.core.threads → nat_lt t (length (log_of state happened).threads) ≡ true
unfolding log_of
counted_lt state happened t within =
    let l : length (thread_logs 0 state.core.threads happened) ≡ length state.core.threads = length-thread_logs 0 state.core.threads happened in
    lt-ltb t (length (thread_logs 0 state.core.threads happened)) (omega (arith, l))

counted : (state : State) (happened : List Event) (t at : ℕ) (shown : Note) → t < length state.core.threads → at < (thread_at state.core t).retired
    → is_counted (log_of state happened) (record { thread = t; at = at; note = shown }) ≡ true
counted state happened t at shown within before =
    and_from _ _ (counted_lt state happened t within)
    (subst (λ (l : ThreadLog). nat_lt at l.steps ≡ true) (sym (logged-at state happened t within)) (lt-ltb at (thread_at state.core t).retired before))

-- the item, or the record, that an event shows stands at its place in the whole run's
item_at : (state : State) (past rest : List Event) (t at : ℕ) (shown : Note) (x : PathItem) → t < length state.core.threads → item_of shown ≡ Some x
    → next_item (log_of state (past ++ record { thread = t; at = at; note = shown } ∷ rest)) past t ≡ Some x
item_at state past rest t at shown x within e =
    ap (λ (l : ThreadLog). slice_get l.path (length (path_of t past))) (logged-at state (past ++ record { thread = t; at = at; note = shown } ∷ rest) t within)
    ∙ (ap (λ (p : List PathItem). slice_get p (length (path_of t past)))
    (path_of-append t past (record { thread = t; at = at; note = shown } ∷ rest)
    ∙ ap (λ (p : List PathItem). path_of t past ++ p)
    (ap (λ (b : Bool). cond b (cons_some (item_of shown) (path_of t rest)) (path_of t rest)) (eq-eqb t t refl)
    ∙ ap (λ (o : Option PathItem). cons_some o (path_of t rest)) e))
    ∙ slice_get-middle (path_of t past) x (path_of t rest))

record_at : (state : State) (past rest : List Event) (e : Event) (x : CallRec) → record_in e ≡ Some x
    → next_record (log_of state (past ++ e ∷ rest)) past ≡ Some x
unfolding log_of
record_at state past rest e x is =
    ap (λ (p : List CallRec). slice_get p (length (records_of past)))
    (records_of-append past (e ∷ rest) ∙ ap (λ (o : Option CallRec). records_of past ++ cons_some o (records_of rest)) is)
    ∙ slice_get-middle (records_of past) x (records_of rest)

ended_by : (state : State) (happened : List Event) (t : ℕ) (fault : _) → state.core.halt ≡ Some (halt.Faulted t fault) → (log_of state happened).end ≡ end.Faulted t fault
unfolding log_of
ended_by state happened t fault e = ap (λ (o : Option Halt). end_by o (list_all is_some state.core.calls.ended)) e

pub test_some : {A : Type 0} (test : A → Bool) (o : Option A) (x : A) → o ≡ Some x → test x ≡ true → option_test test o ≡ true
test_some test o x is passes = ap (option_test test) is ∙ passes

-- and back
pub some_passes : {A : Type 0} (test : A → Bool) (o : Option A) → option_test test o ≡ true → (x : A) × (o ≡ Some x) × (test x ≡ true)
some_passes test None e = absurd (false≢true e)
some_passes test (Some x) e = (x, refl, e)

-- a step of a run agrees with the run's own log
agrees_own : (state : State) (past rest : List Event) (t at : ℕ) (shown : Note) → t < length state.core.threads → Shows t at state.core shown
    → agrees_by (log_of state (past ++ record { thread = t; at = at; note = shown } ∷ rest)) past (record { thread = t; at = at; note = shown }) shown ≡ true
agrees_own state past rest t at note.Nothing within shows = counted state _ t at note.Nothing within shows
agrees_own state past rest t at (note.Branch taken) within shows =
    and_from _ _ (counted state _ t at (note.Branch taken) within shows)
    (test_some (same_item (item.Branch taken)) _ (item.Branch taken) (item_at state past rest t at (note.Branch taken) (item.Branch taken) within refl)
    ((same_item-exact (item.Branch taken) (item.Branch taken)).1 refl))
agrees_own state past rest t at (note.Jump target) within shows =
    and_from _ _ (counted state _ t at (note.Jump target) within shows)
    (test_some (same_item (item.Jump target)) _ (item.Jump target) (item_at state past rest t at (note.Jump target) (item.Jump target) within refl)
    ((same_item-exact (item.Jump target) (item.Jump target)).1 refl))
agrees_own state past rest t at (note.Called call) within shows =
    let made : CallRec = record { tid = t; at = at; call = call } in
    and_from _ _ (counted state _ t at (note.Called call) within shows)
    (test_some (same_rec made) _ made (record_at state past rest (record { thread = t; at = at; note = note.Called call }) made refl)
    ((same_rec-exact made made).1 refl))
agrees_own state past rest t at (note.Faulted fault) within shows =
    ap (same_end (end.Faulted t fault)) (ended_by state (past ++ record { thread = t; at = at; note = note.Faulted fault } ∷ rest) t fault shows)
    ∙ (same_end-exact (end.Faulted t fault) (end.Faulted t fault)).1 refl

agrees_along : (image : Layout) (log : Log) (state : State) (past : List Event) (t : ℕ) (schedule : List ℕ) → is_enabled image state t ≡ true
    → Runs image (step image state t).state schedule
    → log_of (final image (step image state t).state schedule) (past ++ event_of image state t ∷ events image (step image state t).state schedule) ≡ log
    → agrees log past (event_of image state t) ≡ true
agrees_along image log state past t schedule able runs is =
    let within : t < length state.core.threads = enabled_within image state t able in
    let grows : Grows state.core (step image state t).state.core = step_grows image state t within in
    let on : Grows (step image state t).state.core (final image (step image state t).state schedule).core = run_grows image (step image state t).state schedule runs in
    let shows : Shows t (thread_at state.core t).retired (final image (step image state t).state schedule).core (step image state t).note =
    later t (thread_at state.core t).retired (step image state t).state.core (final image (step image state t).state schedule).core (step image state t).note
    (omega (arith, grows.count)) on (λ (x : Halt) (h : (step image state t).state.core.halt ≡ Some x). run_halted image (step image state t).state schedule x h runs)
    (step_shows image state t within) in
    subst (λ (l : Log). agrees l past (event_of image state t) ≡ true) is
    (agrees_own (final image (step image state t).state schedule) past (events image (step image state t).state schedule) t (thread_at state.core t).retired
    (step image state t).note (omega (arith, grows.count, on.count)) shows)

pub none_map : (o : Option ℕ) → option_map suc o ≡ None → o ≡ None
none_map None e = refl
none_map (Some n) e = absurd (let f : Some (suc n) ≡ None = e in cc)

pub step_none : (b : Bool) (o : Option ℕ) → cond b (option_map suc o) (Some 0) ≡ None → (b ≡ true) × (o ≡ None)
step_none true o e = (refl, none_map o e)
step_none false o e = absurd (let f : Some 0 ≡ None = e in cc)

last_none : (b : Bool) → cond {A = Option ℕ} b None (Some 0) ≡ None → b ≡ true
last_none true e = refl
last_none false e = absurd (let f : Some 0 ≡ None = e in cc)

-- From a state on, after what happened: the rest runs, and its log with what happened is the log.
abbrev Rests : Layout → Log → State → List Event → List ℕ → Type 0
Rests image log state past schedule = Runs image state schedule × (log_of (final image state schedule) (past ++ events image state schedule) ≡ log)

none_rests : (image : Layout) (log : Log) (state : State) (past : List Event) (schedule : List ℕ) → differs_from image log state past schedule ≡ None → Rests image log state past schedule
none_rests image log state past [] e =
    (tt, ap (log_of state) (append-nil past) ∙ (same_log-exact (log_of state past) log).0 (last_none (same_log (log_of state past) log) e))
none_rests image log state past (t ∷ schedule) e =
    let parts : (is_enabled image state t && agrees log past (event_of image state t) ≡ true)
    × (differs_from image log (step image state t).state (past ++ event_of image state t ∷ []) schedule ≡ None) =
    step_none (is_enabled image state t && agrees log past (event_of image state t)) (differs_from image log (step image state t).state (past ++ event_of image state t ∷ []) schedule) e in
    let rest : Rests image log (step image state t).state (past ++ event_of image state t ∷ []) schedule =
    none_rests image log (step image state t).state (past ++ event_of image state t ∷ []) schedule parts.1 in (
      ((and_parts _ _ parts.0).0, rest.0),
      ap (log_of (final image (step image state t).state schedule))
          (sym (append_assoc past (event_of image state t ∷ []) (events image (step image state t).state schedule))) ∙ rest.1,
    )

rests_none : (image : Layout) (log : Log) (state : State) (past : List Event) (schedule : List ℕ) → Rests image log state past schedule → differs_from image log state past schedule ≡ None
rests_none image log state past [] rests =
    ap (λ (b : Bool). let chosen : Option ℕ = cond b None (Some 0) in chosen)
    ((same_log-exact (log_of state past) log).1 (ap (log_of state) (sym (append-nil past)) ∙ rests.1))
rests_none image log state past (t ∷ schedule) rests =
    let agree : agrees log past (event_of image state t) ≡ true = agrees_along image log state past t schedule rests.0.0 rests.0.1 rests.1 in
    let rest : Rests image log (step image state t).state (past ++ event_of image state t ∷ []) schedule = (
      rests.0.1,
      ap (log_of (final image (step image state t).state schedule))
          (append_assoc past (event_of image state t ∷ []) (events image (step image state t).state schedule)) ∙ rests.1,
    ) in
    ap (λ (b : Bool). cond b (option_map suc (differs_from image log (step image state t).state (past ++ event_of image state t ∷ []) schedule)) (Some 0))
    (and_from _ _ rests.0.0 agree)
    ∙ ap (option_map suc) (rests_none image log (step image state t).state (past ++ event_of image state t ∷ []) schedule rest)

pub no_difference : (image : Layout) (log : Log) (schedule : List ℕ) → (first_diff image log schedule ≡ None) ↔ HasLog image log schedule
unfolding first_diff
no_difference image log schedule = (
  (λ (e : differs_from image log (opening image (tape_of log)) [] schedule ≡ None).
      let rests : Rests image log (opening image (tape_of log)) [] schedule = none_rests image log (opening image (tape_of log)) [] schedule e in
      record { runs = rests.0; log_is = rests.1 }),
  (λ (has : HasLog image log schedule). rests_none image log (opening image (tape_of log)) [] schedule (has.runs, has.log_is)),
)

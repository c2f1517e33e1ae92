-- The calls of a log that a schedule has could be made in the order of their records.
use Rattle.std.specs.Prelude.{◌≡◌, ℕ, ◌<◌, Bool, true, false, List, [], ◌∷◌, length, map, slice_get, Option, Some, is_some, AllPairs, refl}
use Rattle.std.specs.List.{fold, list_all}
use Rattle.std.proofs.Common.{sym, ◌∙◌, ap, subst, arith, inl, inr, get_or}
use Rattle.std.proofs.lemmas.Bool.{cases_lt, false_from_ne_true}
use Rattle.std.proofs.lemmas.List.Folds.{list_all-map}
use Rattle.std.proofs.lemmas.Option.{slice_get-get_or}
use Rattle.elf_image.specs.Layout.{Layout}
use Rattle.odr_log.specs.declared.log.Call.{Call}
use Rattle.odr_log.specs.declared.log.CallRec.{CallRec}
use Rattle.odr_log.specs.declared.log.Cause.{Cause}
use Rattle.odr_log.specs.declared.log.Log.{Log}
use Rattle.odr_log.specs.declared.log.Pos.{Pos}
use Rattle.odr_log.specs.Tape.{tape_of}
use Rattle.rv_model.specs.declared.state.Calls.{Calls}
use Rattle.rv_model.specs.declared.state.Event.{Event}
use Rattle.rv_model.specs.declared.state.Halt.{Halt}
use Rattle.rv_model.specs.declared.state.Halt.TheVariants as halt
use Rattle.rv_model.specs.declared.state.Note.{Note}
use Rattle.rv_model.specs.declared.state.Note.TheVariants as note
use Rattle.rv_model.specs.declared.state.State.{State}
use Rattle.rv_model.specs.declared.state.Stepped.{Stepped}
use Rattle.rv_model.specs.Calls.{first_argument, asked_in}
use Rattle.rv_model.specs.CallsFit.{FitsRecord, after_record, Pass, final_calls, is_exit, final_halt, EndFits}
use Rattle.rv_model.specs.Run.{Runs, final, events, record_in, records_of, cons_some, log_of, end_of}
use Rattle.rv_model.specs.Step.{opening, thread_at, calls_then, step}
use Rattle.rv_model.proofs.LogParts.{length-thread_logs}
use Rattle.guided_walk.specs.Told.{place_of}
use Rattle.guided_walk.specs.Orders.{In, Distinct, Stands}
use Rattle.guided_walk.specs.Schedules.{places}
use Rattle.guided_walk.proofs.Placing.{distinct_places}
use Rattle.guided_walk.proofs.Records.{among_at, rec}
use Rattle.guided_walk.proofs.Shared.{Alike, made_alike, live_alike, waits_alike, reply_alike, then_alike}
use Rattle.walk_orders.proofs.Lists.{stands_first, stands_once, stands_then}
use Rattle.walk_orders.proofs.Runs.{opening_ran, place_at, run_places, record_placed, records_stand, calls_run, end_run}
use Rattle.walk_orders.proofs.Steps.{places_rise}
use Rattle.walk_orders.proofs.Decided.{exit_stands_last}
use Rattle.logged_walks.specs.Law.{LoggedCallsFit}
use Rattle.logged_walks.proofs.Steps.{retired_of, Many, StepOf, Falls, Moves, step_of, many_on}
use Rattle.logged_walks.proofs.Halts.{by_call, event_at, run_halt, FaultedAt, run_fault, not_all, ends_fit}

-- ---- each record fits what those before it leave

fits_alike : (one other : Calls) (r : CallRec) → Alike one other → FitsRecord one r → FitsRecord other r
fits_alike one other r alike fits = record {
  exists = omega (arith, fits.exists, made_alike one other alike);
  live = live_alike one other r.tid alike fits.live;
  ready = sym (waits_alike one other r.tid (asked_in r.call) alike) ∙ fits.ready;
  answered = sym (reply_alike one other r.tid (asked_in r.call) alike) ∙ fits.answered;
  possible = fits.possible;
}

pass_on : (calls : Calls) (t at : ℕ) (n : Note) (later : List CallRec) → ((c : Call) → n ≡ note.Called c → FitsRecord calls (rec t at c)) → Pass (calls_then calls t 0 n) later
    → Pass calls (cons_some (record_in (event_at t at n)) later)
pass_on calls t at (note.Called c) later fits pass = (fits c refl, pass)
pass_on calls t at note.Nothing later fits pass = pass
pass_on calls t at (note.Branch taken) later fits pass = pass
pass_on calls t at (note.Jump target) later fits pass = pass
pass_on calls t at (note.Faulted fault) later fits pass = pass

fold_on : (calls : Calls) (t at : ℕ) (n : Note) (later : List CallRec)
    → fold after_record (calls_then calls t 0 n) later ≡ fold after_record calls (cons_some (record_in (event_at t at n)) later)
fold_on calls t at (note.Called c) later = refl
fold_on calls t at note.Nothing later = refl
fold_on calls t at (note.Branch taken) later = refl
fold_on calls t at (note.Jump target) later = refl
fold_on calls t at (note.Faulted fault) later = refl

step_alike : (image : Layout) (state : State) (t : ℕ) (s : Stepped) (calls : Calls) → Alike state.core.calls calls → StepOf image state t s → Alike s.state.core.calls (calls_then calls t 0 s.note)
step_alike image state t s calls alike (Falls {fault = fault} fell) =
    subst (λ (n : Note). Alike s.state.core.calls (calls_then calls t 0 n)) (sym fell.note) (subst (λ (c : Calls). Alike c calls) (sym fell.calls) alike)
step_alike image state t s calls alike (Moves went) =
    subst (λ (c : Calls). Alike c (calls_then calls t 0 s.note)) (sym went.calls)
    (then_alike state.core.calls calls t (first_argument (thread_at state.core t).local) 0 s.note alike)

faulted_called : (fault : Cause) (c : Call) → note.Faulted fault ≡ note.Called c → ⊥
faulted_called fault c e = cc

step_fits : (image : Layout) (state : State) (t : ℕ) (s : Stepped) (calls : Calls) → Alike state.core.calls calls → StepOf image state t s
    → (c : Call) → s.note ≡ note.Called c → FitsRecord calls (rec t (retired_of state.core t) c)
step_fits image state t s calls alike (Falls {fault = fault} fell) c is = absurd (faulted_called fault c (sym fell.note ∙ is))
step_fits image state t s calls alike (Moves went) c is = fits_alike state.core.calls calls (rec t (retired_of state.core t) c) alike (went.fits c is)

-- from a state on, whose calls are alike but for the values with which threads ended
pub record CallsRun (image : Layout) (state : State) (schedule : List ℕ) (calls : Calls) : Type 0 where
  pub pass : Pass calls (records_of (events image state schedule))
  pub alike : Alike (final image state schedule).core.calls (fold after_record calls (records_of (events image state schedule)))
  pub many : Many (final image state schedule)

pub run_calls : (image : Layout) (state : State) (schedule : List ℕ) (calls : Calls) → Many state → Alike state.core.calls calls → Runs image state schedule
    → CallsRun image state schedule calls
run_calls image state [] calls many alike runs = record { pass = tt; alike = alike; many = many }
run_calls image state (t ∷ schedule) calls many alike runs =
    let s : Stepped = step image state t in
    let is : StepOf image state t s = step_of image state t many runs.0 in
    let rest : CallsRun image s.state schedule (calls_then calls t 0 s.note) =
    run_calls image s.state schedule (calls_then calls t 0 s.note) (many_on image state t s many is) (step_alike image state t s calls alike is) runs.1 in
    let later : List CallRec = records_of (events image s.state schedule) in
    record {
      pass = pass_on calls t (retired_of state.core t) s.note later (step_fits image state t s calls alike is) rest.pass;
      alike = subst (λ (c : Calls). Alike (final image s.state schedule).core.calls c) (fold_on calls t (retired_of state.core t) s.note later) rest.alike;
      many = rest.many;
    }

alike_itself : (calls : Calls) → Alike calls calls
alike_itself calls = record { owners = refl; tape = refl; ended = refl }

all_alike : (one other : Calls) → Alike one other → list_all is_some one.ended ≡ list_all is_some other.ended
all_alike one other alike =
    sym (list_all-map (λ (b : Bool). b) is_some one.ended) ∙ ap (list_all (λ (b : Bool). b)) alike.ended ∙ list_all-map (λ (b : Bool). b) is_some other.ended

-- ---- records rise, and an exit is the last

get_read : (xs : List CallRec) (i : ℕ) (d : CallRec) → i < length xs → slice_get xs i ≡ Some (get_or xs i d)
get_read xs i d less = slice_get-get_or xs i d less

same_place : (r s : CallRec) → r.tid ≡ s.tid → r.at ≡ s.at → place_of r ≡ place_of s
same_place r s t a =
    ap (λ (u : ℕ). let p : Pos = record { thread = u; step = r.at } in p) t ∙ ap (λ (k : ℕ). let p : Pos = record { thread = s.tid; step = k } in p) a

-- of two steps of a thread, the one that stands first in a schedule is the earlier one
rises : (schedule : List ℕ) (r s : CallRec) → Stands (places schedule) (place_of r) (place_of s) → In (place_of s) (places schedule) → r.tid ≡ s.tid → r.at < s.at
rises schedule r s stands i same =
    let once : Distinct (places schedule) = distinct_places [] schedule in
    let j : In (place_of r) (places schedule) = stands_first (place_of r) (place_of s) (places schedule) stands in
    elim (cases_lt r.at s.at) [
      | inl less ↦ less
      | inr le ↦ elim (cases_lt s.at r.at) [
        | inl less ↦ absurd (stands_once (place_of r) (places schedule) once
            (stands_then (place_of r) (place_of s) (place_of r) (places schedule) once stands (places_rise [] schedule (place_of s) (place_of r) i j (sym same) less)))
        | inr ge ↦ (let at : s.at ≡ r.at = omega (arith, le, ge) in
            absurd (stands_once (place_of r) (places schedule) once (subst (Stands (places schedule) (place_of r)) (same_place s r (sym same) at) stands)))
      ]
    ]

-- ---- the whole

pub threads_run : (state : State) (happened : List Event) (log : Log) → log_of state happened ≡ log → length state.core.threads ≡ length log.threads
unfolding log_of
threads_run state happened log is = sym (length-thread_logs 0 state.core.threads happened) ∙ ap (λ (l : Log). length l.threads) is

pub calls_fit : LoggedCallsFit
calls_fit image log schedule has =
    let start : State = opening image (tape_of log) in
    let last : State = final image start schedule in
    let es : List Event = events image start schedule in
    let records : records_of es ≡ log.calls = calls_run last es log has.log_is in
    let run : CallsRun image start schedule start.core.calls = run_calls image start schedule start.core.calls refl (alike_itself start.core.calls) has.runs in
    let alike : Alike last.core.calls (final_calls log) = subst (λ (rs : List CallRec). Alike last.core.calls (fold after_record start.core.calls rs)) records run.alike in
    let all : list_all is_some last.core.calls.ended ≡ list_all is_some (final_calls log).ended = all_alike last.core.calls (final_calls log) alike in
    let steps : map place_at es ≡ places schedule = run_places image start [] schedule (opening_ran image (tape_of log)) has.runs in
    let live : (t : ℕ) (fault : Cause) → last.core.halt ≡ Some (halt.Faulted t fault) → list_all is_some last.core.calls.ended ≡ false =
    λ (t : ℕ) (fault : Cause) (e : last.core.halt ≡ Some (halt.Faulted t fault)).
    let at : FaultedAt image last.core t fault = run_fault image start schedule t fault refl refl has.runs e in
    not_all last.core.calls.ended t (omega (arith, at.there, run.many)) at.live in
    let stands : (i j : ℕ) (d : CallRec) → i < j → j < length (records_of es) → Stands (map place_at es) (place_of (get_or (records_of es) i d)) (place_of (get_or (records_of es) j d)) =
    λ (i j : ℕ) (d : CallRec) (less : i < j) (within : j < length (records_of es)).
    records_stand es i j (get_or (records_of es) i d) (get_or (records_of es) j d) (get_read (records_of es) i d (omega (arith, less, within))) (get_read (records_of es) j d within) less in
    record {
      pass = subst (Pass start.core.calls) records run.pass;
      rising = subst (AllPairs (λ earlier later. earlier.tid ≡ later.tid → earlier.at < later.at)) records
          (λ (i j : ℕ) (d : CallRec) (less : i < j) (within : j < length (records_of es)) (same : (get_or (records_of es) i d).tid ≡ (get_or (records_of es) j d).tid).
          rises schedule (get_or (records_of es) i d) (get_or (records_of es) j d)
          (subst (λ (ps : List Pos). Stands ps (place_of (get_or (records_of es) i d)) (place_of (get_or (records_of es) j d))) steps (stands i j d less within))
          (subst (In (place_of (get_or (records_of es) j d))) steps (record_placed es (get_or (records_of es) j d) (among_at (records_of es) j (get_or (records_of es) j d) (get_read (records_of es) j d within))))
          same);
      exit_last = subst (AllPairs (λ earlier later. is_exit earlier.call ≡ false)) records
          (λ (i j : ℕ) (d : CallRec) (less : i < j) (within : j < length (records_of es)).
          let r : CallRec = get_or (records_of es) i d in
          false_from_ne_true (is_exit r.call) (λ (exit : is_exit r.call ≡ true).
          exit_stands_last image start [] schedule r (place_of (get_or (records_of es) j d)) (opening_ran image (tape_of log)) has.runs
          (subst Distinct (sym steps) (distinct_places [] schedule)) exit (among_at (records_of es) i r (get_read (records_of es) i d (omega (arith, less, within)))) (stands i j d less within)));
      threads = sym (made_alike last.core.calls (final_calls log) alike) ∙ sym run.many ∙ threads_run last es log has.log_is;
      end = end_run_fits last es log has.log_is (final_halt log.calls) (list_all is_some (final_calls log).ended)
          (ap final_halt (sym records) ∙ run_halt image start schedule refl refl has.runs) (sym all) live;
    } where
      end_run_fits : (state : State) (happened : List Event) (l : Log) → log_of state happened ≡ l → (h : Option Halt) (all : Bool) → h ≡ by_call state.core.halt → all ≡ list_all is_some state.core.calls.ended
          → ((t : ℕ) (fault : Cause) → state.core.halt ≡ Some (halt.Faulted t fault) → list_all is_some state.core.calls.ended ≡ false) → EndFits h all l.end
      end_run_fits state happened l is h all halts ended live =
          let e : l.end ≡ end_of state.core = end_run state happened l is in
          subst (EndFits h all) (sym e) (subst (λ (b : Bool). EndFits h b (end_of state.core)) (sym ended)
          (subst (λ (o : Option Halt). EndFits o (list_all is_some state.core.calls.ended) (end_of state.core)) (sym halts)
          (ends_fit state.core.halt (list_all is_some state.core.calls.ended) live)))

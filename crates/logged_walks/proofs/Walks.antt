-- The walk of a log that a schedule has: what each thread did in the run.
use Rattle.std.specs.Prelude.{◌≡◌, ℕ, zero, suc, ◌+◌, ◌<◌, ◌≤◌, Bool, true, false, List, [], ◌∷◌, length, Option, Some, None, is_some, All, refl}
use Rattle.std.specs.List.{find, list_all}
use Rattle.std.specs.Result.{result_ok}
use Rattle.std.proofs.Common.{sym, ◌∙◌, ap, subst, arith, inl, inr, get_or}
use Rattle.std.proofs.lemmas.List.Elements.{All-nil, All-cons}
use Rattle.elf_image.specs.Layout.{Layout}
use Rattle.odr_log.specs.declared.log.CallRec.{CallRec}
use Rattle.odr_log.specs.declared.log.Cause.{Cause}
use Rattle.odr_log.specs.declared.log.End.{End}
use Rattle.odr_log.specs.declared.log.End.TheVariants as end
use Rattle.odr_log.specs.declared.log.Log.{Log}
use Rattle.odr_log.specs.declared.log.Pos.{Pos}
use Rattle.odr_log.specs.declared.log.ThreadLog.{ThreadLog}
use Rattle.odr_log.specs.Tape.{tape_of}
use Rattle.rv_model.specs.declared.state.Core.{Core}
use Rattle.rv_model.specs.declared.state.Event.{Event}
use Rattle.rv_model.specs.declared.state.Halt.{Halt}
use Rattle.rv_model.specs.declared.state.Halt.TheVariants as halt
use Rattle.rv_model.specs.declared.state.Note.{Note}
use Rattle.rv_model.specs.declared.state.State.{State}
use Rattle.rv_model.specs.declared.walk.FaultPlace.{FaultPlace}
use Rattle.rv_model.specs.declared.walk.Place.{Place}
use Rattle.rv_model.specs.Calls.{end_value}
use Rattle.rv_model.specs.Run.{Runs, final, events, event_of, record_in, records_of, cons_some, path_of, end_by, logged, log_of, HasLog}
use Rattle.rv_model.specs.Step.{opening, instr_at, step}
use Rattle.rv_model.specs.Walk.{Walk, places_of, notes_of, events_from, is_last, records_by, makes, BeginsAt, ThreadWalk, FaultFits}
use Rattle.rv_model.proofs.Difference.{enabled_within, run_grows}
use Rattle.rv_model.proofs.LogParts.{logged-at}
use Rattle.walk_orders.proofs.Runs.{record_place, calls_run, end_run}
use Rattle.logged_walks.specs.Law.{LoggedPathsFit}
use Rattle.logged_walks.proofs.Steps.{pc_of, retired_of}
use Rattle.logged_walks.proofs.Halts.{by_call, FaultedAt, run_fault}
use Rattle.logged_walks.proofs.Calls.{threads_run}
use Rattle.logged_walks.proofs.Threads.{Begun}
use Rattle.logged_walks.proofs.Runs.{ThreadRun, Starts, Does}
use Rattle.logged_walks.proofs.Along.{run_threads}

-- ---- thread after thread

-- places and notes of so many threads from one on
record Listed (P : ℕ → List Place → List Note → Type 0) (first count : ℕ) : Type 0 where
  places : List (List Place)
  notes : List (List Note)
  many : length places ≡ count
  as_many : length notes ≡ count
  each : (u : ℕ) → u < count → P (first + u) (get_or places u []) (get_or notes u [])

abbrev Has : (ℕ → List Place → List Note → Type 0) → ℕ → Type 0
Has P u = (places : List Place) × (notes : List Note) × P u places notes

listed : (P : ℕ → List Place → List Note → Type 0) (first count : ℕ) → ((u : ℕ) → first ≤ u → u < first + count → Has P u) → Listed P first count
listed P first zero each = record { places = []; notes = []; many = refl; as_many = refl; each = λ (u : ℕ) (less : u < 0). absurd (omega (arith, less)) }
listed P first (suc count) each =
    let here : Has P first = each first (omega arith) (omega arith) in
    let rest : Listed P (first + 1) count = listed P (first + 1) count (λ (u : ℕ) (from : first + 1 ≤ u) (to : u < first + 1 + count). each u (omega (arith, from)) (omega (arith, to))) in
    record {
      places = here.0 ∷ rest.places;
      notes = here.1 ∷ rest.notes;
      many = ap suc rest.many;
      as_many = ap suc rest.as_many;
      each = λ (u : ℕ) (less : u < suc count). at here rest u less;
    } where
      at : (here : Has P first) (rest : Listed P (first + 1) count) (u : ℕ) → u < suc count → P (first + u) (get_or (here.0 ∷ rest.places) u []) (get_or (here.1 ∷ rest.notes) u [])
      at here rest zero less = subst (λ (v : ℕ). P v here.0 here.1) (let e : first ≡ first + 0 = omega arith in e) here.2
      at here rest (suc u) less =
          subst (λ (v : ℕ). P v (get_or rest.places u []) (get_or rest.notes u [])) (let e : first + 1 + u ≡ first + suc u = omega arith in e) (rest.each u (omega (arith, less)))

-- ---- one thread

first_retired : (image : Layout) (tape : List ℕ) (u : ℕ) → retired_of (opening image tape).core u ≡ 0
first_retired image tape zero = refl
first_retired image tape (suc u) = refl

begins_at : (image : Layout) (log : Log) (tape : List ℕ) (es : List Event) (u start : ℕ) → records_of es ≡ log.calls → Starts (opening image tape) es u start → BeginsAt image log u start
begins_at image log tape es zero start calls (inl now) = now.1
begins_at image log tape es zero start calls (inr more) = absurd (omega (arith, more.0))
begins_at image log tape es (suc u) start calls (inl now) = absurd (omega (arith, now.0))
begins_at image log tape es (suc u) start calls (inr more) =
    let begun : Begun (records_of es) (suc u) start = more.1 in
    (begun.spawn, ap (λ (rs : List CallRec). find (λ r. makes (suc u) r.call) rs) (sym calls) ∙ begun.first, begun.is)

-- the walk of a thread of a run, where it leads, and that its notes are none of its last while it lives
record WalkOf (image : Layout) (log : Log) (last : Core) (u : ℕ) (places : List Place) (notes : List Note) : Type 0 where
  walk : ThreadWalk image log u places notes
  after : walk.after ≡ pc_of last u
  live : end_value last.calls u ≡ None → by_call last.halt ≡ None → All (λ shown. is_last shown ≡ false) notes

logged_thread : (state : State) (happened : List Event) (log : Log) (u : ℕ) → log_of state happened ≡ log → u < length state.core.threads
    → logged log u ≡ (let t : ThreadLog = record { steps = retired_of state.core u; path = path_of u happened } in t)
logged_thread state happened log u is less = ap (λ (l : Log). logged l u) (sym is) ∙ logged-at state happened u less

walk_of : (image : Layout) (log : Log) (schedule : List ℕ) (u : ℕ) → HasLog image log schedule
    → u < length (final image (opening image (tape_of log)) schedule).core.threads
    → Has (WalkOf image log (final image (opening image (tape_of log)) schedule).core) u
walk_of image log schedule u has less =
    let start : State = opening image (tape_of log) in
    let last : State = final image start schedule in
    let es : List Event = events image start schedule in
    let does : Does image start es last.core u = run_threads image start schedule refl has.runs u less in
    let run : ThreadRun image start es last.core u does.0 = does.2 in
    let none : retired_of start.core u ≡ 0 = first_retired image (tape_of log) u in
    let calls : records_of es ≡ log.calls = calls_run last es log has.log_is in
    let is : logged log u ≡ (let t : ThreadLog = record { steps = retired_of last.core u; path = path_of u es } in t) = logged_thread last es log u has.log_is less in (
      run.places,
      run.notes,
      record {
        walk = record {
          start = does.0;
          after = pc_of last.core u;
          begins = begins_at image log (tape_of log) es u does.0 calls does.1;
          leads = run.leads;
          steps = all_steps (retired_of start.core u) (length run.places) (retired_of last.core u) none run.steps ∙ ap (λ (t : ThreadLog). t.steps) (sym is);
          path = ap (λ (k : ℕ). path_of u (events_from u k run.notes)) (sym none) ∙ run.path ∙ ap (λ (t : ThreadLog). t.path) (sym is);
          calls = ap (λ (k : ℕ). records_of (events_from u k run.notes)) (sym none) ∙ run.calls ∙ ap (records_by u) calls;
          ends = run.ends;
        };
        after = refl;
        live = run.live;
      },
    ) where
      all_steps : (before taken after : ℕ) → before ≡ 0 → before + taken ≡ after → taken ≡ after
      all_steps before taken after none e = omega (arith, none, e)

-- ---- who called

all_some : (P : CallRec → Type 0) (o : Option CallRec) (rs : List CallRec) → ((r : CallRec) → o ≡ Some r → P r) → All P rs → All P (cons_some o rs)
all_some P None rs here all = all
all_some P (Some r) rs here all = All-cons P r rs (here r refl) all

run_callers : (image : Layout) (state : State) (schedule : List ℕ) → Runs image state schedule
    → All (λ r. r.tid < length (final image state schedule).core.threads) (records_of (events image state schedule))
run_callers image state [] runs = All-nil (λ r. r.tid < length state.core.threads)
run_callers image state (t ∷ schedule) runs =
    let e : Event = event_of image state t in
    let last : State = final image (step image state t).state schedule in
    all_some (λ r. r.tid < length last.core.threads) (record_in e) (records_of (events image (step image state t).state schedule))
    (λ (r : CallRec) (is : record_in e ≡ Some r).
    let same : r.tid ≡ t = ap (λ (p : Pos). p.thread) (record_place e.thread e.at e.note r is).0 in
    omega (arith, same, enabled_within image state t runs.0, (run_grows image state (t ∷ schedule) runs).count))
    (run_callers image (step image state t).state schedule runs.1)

-- ---- the fault

abbrev fault_of : Layout → Core → End → Option FaultPlace
fault_of image last (end.Faulted thread fault) = Some (record { pc = pc_of last thread; instr = result_ok (instr_at image (pc_of last thread)) })
fault_of image last (end.Exited thread code) = None
fault_of image last end.AllDone = None
fault_of image last end.Cut = None

end_halt : (h : Option Halt) (all : Bool) (t : ℕ) (fault : Cause) → end_by h all ≡ end.Faulted t fault → h ≡ Some (halt.Faulted t fault)
end_halt (Some (halt.Exited u code)) all t fault e = absurd (let f : end.Exited u code ≡ end.Faulted t fault = e in cc)
end_halt (Some (halt.Faulted u other)) all t fault e = same u other e where
  same : (v : ℕ) (one : Cause) → end.Faulted v one ≡ end.Faulted t fault → Some (halt.Faulted v one) ≡ Some (halt.Faulted t fault)
  same v one f = cc
end_halt None true t fault e = absurd (let f : end.AllDone ≡ end.Faulted t fault = e in cc)
end_halt None false t fault e = absurd (let f : end.Cut ≡ end.Faulted t fault = e in cc)

fault_fits : (image : Layout) (log : Log) (schedule : List ℕ) (walk : Walk) → HasLog image log schedule
    → ((u : ℕ) → u < length (final image (opening image (tape_of log)) schedule).core.threads
    → WalkOf image log (final image (opening image (tape_of log)) schedule).core u (places_of walk u) (notes_of walk u))
    → (ended : End) → log.end ≡ ended → FaultFits image log walk ended (fault_of image (final image (opening image (tape_of log)) schedule).core ended)
fault_fits image log schedule walk has each (end.Exited thread code) e = refl
fault_fits image log schedule walk has each end.AllDone e = refl
fault_fits image log schedule walk has each end.Cut e = refl
fault_fits image log schedule walk has each (end.Faulted t fault) e =
    let start : State = opening image (tape_of log) in
    let last : State = final image start schedule in
    let es : List Event = events image start schedule in
    let halted : last.core.halt ≡ Some (halt.Faulted t fault) =
    end_halt last.core.halt (list_all is_some last.core.calls.ended) t fault (sym (end_run last es log has.log_is) ∙ e) in
    let at : FaultedAt image last.core t fault = run_fault image start schedule t fault refl refl has.runs halted in
    let of : WalkOf image log last.core t (places_of walk t) (notes_of walk t) = each t at.there in (
      omega (arith, at.there, threads_run last es log has.log_is),
      record { walk = of.walk; live = of.live at.live (ap by_call halted); pc = sym of.after; fits = at.fits; instr = refl },
    )

-- ---- the whole

pub paths_fit : LoggedPathsFit
paths_fit image log schedule has =
    let start : State = opening image (tape_of log) in
    let last : State = final image start schedule in
    let es : List Event = events image start schedule in
    let many : length last.core.threads ≡ length log.threads = threads_run last es log has.log_is in
    let all : Listed (WalkOf image log last.core) 0 (length last.core.threads) =
    listed (WalkOf image log last.core) 0 (length last.core.threads)
    (λ (u : ℕ) (from : 0 ≤ u) (to : u < 0 + length last.core.threads). walk_of image log schedule u has (omega (arith, to))) in
    let walk : Walk = record { places = all.places; notes = all.notes; fault = fault_of image last.core log.end } in
    let each : (u : ℕ) → u < length last.core.threads → WalkOf image log last.core u (places_of walk u) (notes_of walk u) =
    λ (u : ℕ) (less : u < length last.core.threads).
    subst (λ (v : ℕ). WalkOf image log last.core v (get_or all.places u []) (get_or all.notes u [])) (let z : 0 + u ≡ u = omega arith in z) (all.each u less) in (
      walk,
      record {
        places = all.many ∙ many;
        notes = all.as_many ∙ many;
        each = λ (u : ℕ) (less : u < length log.threads). (each u (omega (arith, less, many))).walk;
        callers = subst (All (λ r. r.tid < length log.threads)) (calls_run last es log has.log_is)
            (subst (λ (n : ℕ). All (λ r. r.tid < n) (records_of es)) many (run_callers image start schedule has.runs));
        fault = fault_fits image log schedule walk has each log.end refl;
      },
    )

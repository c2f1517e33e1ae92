-- The log of a run that has all steps behind it and noted what is told is the log.
use Rattle.std.specs.Prelude.{◌≡◌, ℕ, suc, ◌+◌, ◌<◌, ◌≤◌, Bool, true, false, cond, List, [], ◌∷◌, ◌++◌, length, take, nat_eq, Option, Some, None, is_some, refl}
use Rattle.std.proofs.Common.{sym, ◌∙◌, ap, subst, arith, inl, inr, eqb}
use Rattle.std.proofs.lemmas.Bool.{eqb-true}
use Rattle.std.proofs.lemmas.List.{length-append, append-nil}
use Rattle.elf_image.specs.Layout.{Layout}
use Rattle.odr_log.specs.declared.log.Cause.{Cause}
use Rattle.odr_log.specs.declared.log.CallRec.{CallRec}
use Rattle.odr_log.specs.declared.log.End.{End}
use Rattle.odr_log.specs.declared.log.End.TheVariants as end
use Rattle.odr_log.specs.declared.log.Log.{Log}
use Rattle.odr_log.specs.declared.log.PathItem.{PathItem}
use Rattle.odr_log.specs.declared.log.Pos.{Pos}
use Rattle.odr_log.specs.Tape.{tape_of}
use Rattle.rv_model.specs.declared.state.Thread.{Thread}
use Rattle.rv_model.specs.declared.state.Calls.{Calls}
use Rattle.rv_model.specs.declared.state.Note.{Note}
use Rattle.rv_model.specs.declared.state.Note.TheVariants as note
use Rattle.rv_model.specs.declared.state.State.{State}
use Rattle.rv_model.specs.declared.state.Event.{Event}
use Rattle.rv_model.specs.Calls.{made, opening_calls}
use Rattle.rv_model.specs.Step.{opening, thread_at, step}
use Rattle.rv_model.specs.Run.{item_of, cons_some, path_of, logged, nothing_logged, agrees, fits, HasLog}
use Rattle.rv_model.specs.Walk.{Walk, notes_of, places_of, events_from, ThreadWalk, IsWalk}
use Rattle.rv_model.specs.CallsFit.{CallsFit}
use Rattle.rv_model.proofs.LogParts.{path_of-append}
use Rattle.guided_walk.specs.Told.{Told, told, last_fault, IsPlace, noted}
use Rattle.guided_walk.specs.Orders.{In}
use Rattle.guided_walk.specs.Schedules.{count, next_of, places}
use Rattle.guided_walk.specs.Run.{Agrees}
use Rattle.guided_walk.proofs.Facts.{notes_counted}
use Rattle.guided_walk.proofs.Logged.{told_event, events_along, Built, path_along}
use Rattle.std.specs.List.{fold, list_all}
use Rattle.std.proofs.lemmas.List.Sums.{fold-append}
use Rattle.std.proofs.lemmas.List.{take_all, ext_get_or}
use Rattle.odr_log.specs.declared.log.ThreadLog.{ThreadLog}
use Rattle.rv_model.specs.declared.state.Halt.{Halt}
use Rattle.rv_model.specs.declared.state.Halt.TheVariants as halt
use Rattle.rv_model.specs.Run.{Runs, final, events, records_of, thread_logs, end_by, end_of, log_of}
use Rattle.rv_model.specs.Step.{calls_then}
use Rattle.rv_model.specs.CallsFit.{after_record, final_calls, final_halt, EndFits}
use Rattle.rv_model.proofs.LogParts.{records_of-append, length-thread_logs, thread_logs-at}
use Rattle.guided_walk.specs.Run.{record_calls}
use Rattle.guided_walk.proofs.Shared.{made_alike}
use Rattle.guided_walk.proofs.LoggedRun.{Follows, follows_opening, Total, fault_steps}
use Rattle.std.proofs.lemmas.List.Folds.{list_all-map}
use Rattle.guided_walk.proofs.Whole.{all_done, count_all, Keeps, keeps_opening, FaultHere, Ends, Stood, Fell, RunEnds, agrees_ends}

-- ---- the records so far

one_more : (c : Calls) (t at : ℕ) (n : Note) → calls_then c t 0 n ≡ fold after_record c (records_of ((let e : Event = record { thread = t; at = at; note = n } in e) ∷ []))
one_more c t at (note.Called made) = refl
one_more c t at note.Nothing = refl
one_more c t at (note.Branch taken) = refl
one_more c t at (note.Jump target) = refl
one_more c t at (note.Faulted fault) = refl

pub record_fold : (told : Told) (tape : List ℕ) (done : List Pos) → record_calls told tape done ≡ fold after_record (opening_calls tape) (records_of (events_along told done))
record_fold told tape [] = refl
record_fold told tape (p ∷ done) =
    ap (λ (c : Calls). calls_then c p.thread 0 (noted told p)) (record_fold told tape done)
    ∙ one_more (fold after_record (opening_calls tape) (records_of (events_along told done))) p.thread p.step (noted told p)
    ∙ sym (fold-append after_record (opening_calls tape) (records_of (events_along told done)) (records_of (told_event told p ∷ [])))
    ∙ ap (fold after_record (opening_calls tape)) (sym (records_of-append (events_along told done) (told_event told p ∷ [])))

-- ---- how many steps a thread has done

few_step : (walk : Walk) (u : ℕ) (p : Pos) (done : List Pos) → p.step ≡ count p.thread done → p.step < length (notes_of walk p.thread) → count u done ≤ length (notes_of walk u)
    → (b : Bool) → eqb p.thread u ≡ b → cond b (suc (count u done)) (count u done) ≤ length (notes_of walk u)
few_step walk u p done next here few true e =
    let same : p.thread ≡ u = eqb-true p.thread u e in
    let within : p.step < length (notes_of walk u) = subst (λ (t : ℕ). p.step < length (notes_of walk t)) same here in
    let at : p.step ≡ count u done = next ∙ ap (λ (t : ℕ). count t done) same in
    omega (arith, within, at)
few_step walk u p done next here few false e = few

pub built_few : (walk : Walk) (u : ℕ) (done : List Pos) → Built done → ((p : Pos) → In p done → p.step < length (notes_of walk p.thread)) → count u done ≤ length (notes_of walk u)
built_few walk u [] built counted = omega arith
built_few walk u (p ∷ done) built counted =
    few_step walk u p done built.0 (counted p (inl refl)) (built_few walk u done built.1 (λ (q : Pos) (i : In q done). counted q (inr i))) (eqb p.thread u) refl

at_least : (log : Log) (walk : Walk) (u : ℕ) → length (notes_of walk u) ≤ (told log walk).steps u
at_least log walk u = omega (arith, length-append (notes_of walk u) (last_fault log.end u))

-- ---- the parts of the log

-- A run has all counted steps behind it, and made all records.
pub record Made (image : Layout) (log : Log) (walk : Walk) (done : List Pos) (state : State) (happened : List Event) : Type 0 where
  pub follows : Follows image log walk done state
  pub keeps : Keeps (told log walk) (tape_of log) done state
  pub full : (u : ℕ) → count u done ≡ length (notes_of walk u)
  pub records : records_of (events_along (told log walk) done) ≡ log.calls
  pub paths : (u : ℕ) → path_of u happened ≡ path_of u (events_along (told log walk) done)

made_final : (image : Layout) (log : Log) (walk : Walk) (done : List Pos) (state : State) (happened : List Event) → Made image log walk done state happened
    → record_calls (told log walk) (tape_of log) done ≡ final_calls log
made_final image log walk done state happened m =
    record_fold (told log walk) (tape_of log) done ∙ ap (fold after_record (opening_calls (tape_of log))) m.records

pub made_many : (image : Layout) (log : Log) (walk : Walk) (done : List Pos) (state : State) (happened : List Event) → CallsFit log → Made image log walk done state happened
    → length state.core.threads ≡ length log.threads
made_many image log walk done state happened fit m =
    m.follows.many ∙ made_alike state.core.calls (record_calls (told log walk) (tape_of log) done) m.keeps.calls
    ∙ ap made (made_final image log walk done state happened m) ∙ fit.threads

pub made_ended : (image : Layout) (log : Log) (walk : Walk) (done : List Pos) (state : State) (happened : List Event) → Made image log walk done state happened
    → list_all is_some state.core.calls.ended ≡ list_all is_some (final_calls log).ended
made_ended image log walk done state happened m =
    let final_is : record_calls (told log walk) (tape_of log) done ≡ final_calls log = made_final image log walk done state happened m in
    sym (list_all-map (λ (b : Bool). b) is_some state.core.calls.ended)
    ∙ ap (list_all (λ (b : Bool). b)) m.keeps.calls.ended
    ∙ list_all-map (λ (b : Bool). b) is_some (record_calls (told log walk) (tape_of log) done).ended
    ∙ ap (λ (c : Calls). list_all is_some c.ended) final_is

-- what the log says of a thread
thread_made : (image : Layout) (log : Log) (walk : Walk) (done : List Pos) (state : State) (happened : List Event) (u : ℕ) → IsWalk image log walk
    → Made image log walk done state happened → u < length state.core.threads → u < length log.threads
    → (let t : ThreadLog = record { steps = (thread_at state.core u).retired; path = path_of u happened } in t) ≡ logged log u
thread_made image log walk done state happened u is m there within =
    let tw : ThreadWalk image log u (places_of walk u) (notes_of walk u) = is.each u within in
    let steps : (thread_at state.core u).retired ≡ (logged log u).steps = (m.follows.threads u there).0 ∙ m.full u ∙ notes_counted image log walk is u within in
    let path : path_of u happened ≡ (logged log u).path =
    m.paths u ∙ path_along log walk u done m.follows.built m.follows.counted
    ∙ ap (λ (k : ℕ). path_of u (events_from u 0 (take k (notes_of walk u)))) (m.full u)
    ∙ ap (λ (ns : List Note). path_of u (events_from u 0 ns)) (take_all (length (notes_of walk u)) (notes_of walk u) (omega arith))
    ∙ tw.path in
    ap (λ (n : ℕ). let t : ThreadLog = record { steps = n; path = path_of u happened } in t) steps
    ∙ ap (λ (items : List PathItem). let t : ThreadLog = record { steps = (logged log u).steps; path = items } in t) path

pub made_threads : (image : Layout) (log : Log) (walk : Walk) (done : List Pos) (state : State) (happened : List Event) → IsWalk image log walk → CallsFit log
    → Made image log walk done state happened → thread_logs 0 state.core.threads happened ≡ log.threads
made_threads image log walk done state happened is fit m =
    let many : length state.core.threads ≡ length log.threads = made_many image log walk done state happened fit m in
    let long : length (thread_logs 0 state.core.threads happened) ≡ length state.core.threads = length-thread_logs 0 state.core.threads happened in
    ext_get_or nothing_logged (thread_logs 0 state.core.threads happened) log.threads (long ∙ many)
    (λ (u : ℕ) (less : u < length (thread_logs 0 state.core.threads happened)).
    let there : u < length state.core.threads = omega (arith, less, long) in
    thread_logs-at 0 u u state.core.threads happened nothing_logged there (omega arith)
    ∙ thread_made image log walk done state happened u is m there (omega (arith, there, many)))

-- the end of a log that is no fault
end_fits : (h : Option Halt) (all : Bool) (ended : End) → EndFits h all ended → ((t : ℕ) (fault : Cause) → ended ≡ end.Faulted t fault → ⊥) → ended ≡ end_by h all
end_fits (Some h) all ended fits not = fits
end_fits None true ended fits not = fits
end_fits None false (end.Faulted t fault) fits not = absurd (not t fault refl)
end_fits None false (end.Exited t code) fits not = fits
end_fits None false end.AllDone fits not = fits
end_fits None false end.Cut fits not = fits

log_parts : (log : Log) (threads : List ThreadLog) (calls : List CallRec) (ended : End) → 1 ≡ log.version → threads ≡ log.threads → calls ≡ log.calls → ended ≡ log.end
    → (let l : Log = record { version = 1; threads = threads; calls = calls; end = ended } in l) ≡ log
log_parts log threads calls ended v t c e =
    ap (λ (x : ℕ). let l : Log = record { version = x; threads = threads; calls = calls; end = ended } in l) v
    ∙ ap (λ (x : List ThreadLog). let l : Log = record { version = log.version; threads = x; calls = calls; end = ended } in l) t
    ∙ ap (λ (x : List CallRec). let l : Log = record { version = log.version; threads = log.threads; calls = x; end = ended } in l) c
    ∙ ap (λ (x : End). let l : Log = record { version = log.version; threads = log.threads; calls = log.calls; end = x } in l) e

log_is : (log : Log) (state : State) (happened : List Event) → 1 ≡ log.version → thread_logs 0 state.core.threads happened ≡ log.threads → records_of happened ≡ log.calls
    → end_of state.core ≡ log.end → log_of state happened ≡ log
unfolding log_of
log_is log state happened v t c e = log_parts log (thread_logs 0 state.core.threads happened) (records_of happened) (end_of state.core) v t c e

-- ---- both ends

has_stood : (image : Layout) (log : Log) (walk : Walk) (all : List Pos) (state : State) (happened : List Event) → IsWalk image log walk → CallsFit log → log.version ≡ 1
    → ((u : ℕ) → count u all ≡ (told log walk).steps u) → happened ≡ events_along (told log walk) all → records_of happened ≡ log.calls
    → Follows image log walk all state → Keeps (told log walk) (tape_of log) all state → log_of state happened ≡ log
has_stood image log walk all state happened is fit version total is_all records follows keeps =
    let full : (u : ℕ) → count u all ≡ length (notes_of walk u) =
    λ (u : ℕ). omega (arith, total u, at_least log walk u, built_few walk u all follows.built follows.counted) in
    let m : Made image log walk all state happened = record {
      follows = follows;
      keeps = keeps;
      full = full;
      records = sym (ap records_of is_all) ∙ records;
      paths = λ (u : ℕ). ap (path_of u) is_all;
    } in
    let no_fault : (t : ℕ) (fault : Cause) → log.end ≡ end.Faulted t fault → ⊥ =
    λ (t : ℕ) (fault : Cause) (e : log.end ≡ end.Faulted t fault). absurd (omega (arith, full t, total t, fault_steps log walk t fault e)) in
    let ended : log.end ≡ end_by (final_halt log.calls) (list_all is_some (final_calls log).ended) =
    end_fits (final_halt log.calls) (list_all is_some (final_calls log).ended) log.end fit.end no_fault in
    let halt_is : state.core.halt ≡ final_halt log.calls = keeps.halt ∙ ap final_halt m.records in
    log_is log state happened (sym version) (made_threads image log walk all state happened is fit m) records
    (ap (λ (h : Option Halt). end_by h (list_all is_some state.core.calls.ended)) halt_is
    ∙ ap (end_by (final_halt log.calls)) (made_ended image log walk all state happened m) ∙ sym ended)

fault_path : (u t at : ℕ) (fault : Cause) → path_of u ((let e : Event = record { thread = t; at = at; note = note.Faulted fault } in e) ∷ []) ≡ []
fault_path u t at fault = by_test (nat_eq t u) where
  by_test : (b : Bool) → cond b (cons_some (item_of (note.Faulted fault)) []) [] ≡ []
  by_test true = refl
  by_test false = refl

has_fallen : (image : Layout) (log : Log) (walk : Walk) (done : List Pos) (before state : State) (t : ℕ) (happened : List Event) → IsWalk image log walk → CallsFit log → log.version ≡ 1
    → ((u : ℕ) → count u (next_of t done ∷ done) ≡ (told log walk).steps u) → happened ≡ events_along (told log walk) (next_of t done ∷ done) → records_of happened ≡ log.calls
    → FaultHere log walk (next_of t done) → Follows image log walk done before → Keeps (told log walk) (tape_of log) done before
    → state.core.threads ≡ before.core.threads → ((fault : Cause) → log.end ≡ end.Faulted t fault → state.core.halt ≡ Some (halt.Faulted t fault))
    → log_of state happened ≡ log
has_fallen image log walk done before state t happened is fit version total is_all records here follows keeps threads halts_so =
    let p : Pos = next_of t done in
    let told_here : told_event (told log walk) p ≡ (let e : Event = record { thread = t; at = count t done; note = note.Faulted here.fault } in e) =
    ap (λ (n : Note). let e : Event = record { thread = t; at = count t done; note = n } in e) here.note in
    let full : (u : ℕ) → count u done ≡ length (notes_of walk u) = λ (u : ℕ). full_by u (eqb t u) refl (total u) in
    let m : Made image log walk done before happened = record {
      follows = follows;
      keeps = keeps;
      full = full;
      records =
          sym (append-nil (records_of (events_along (told log walk) done)))
          ∙ ap (λ (e : Event). records_of (events_along (told log walk) done) ++ records_of (e ∷ [])) (sym told_here)
          ∙ sym (records_of-append (events_along (told log walk) done) (told_event (told log walk) p ∷ []))
          ∙ ap records_of (sym is_all) ∙ records;
      paths = λ (u : ℕ).
          ap (path_of u) is_all ∙ path_of-append u (events_along (told log walk) done) (told_event (told log walk) p ∷ [])
          ∙ ap (λ (e : Event). path_of u (events_along (told log walk) done) ++ path_of u (e ∷ [])) told_here
          ∙ ap (λ (xs : List PathItem). path_of u (events_along (told log walk) done) ++ xs) (fault_path u t (count t done) here.fault)
          ∙ append-nil (path_of u (events_along (told log walk) done));
    } in
    log_is log state happened (sym version)
    (ap (λ (ts : List Thread). thread_logs 0 ts happened) threads ∙ made_threads image log walk done before happened is fit m) records
    (ap (λ (h : Option Halt). end_by h (list_all is_some state.core.calls.ended)) (halts_so here.fault here.ends) ∙ sym here.ends) where
      full_by : (u : ℕ) → (b : Bool) → eqb t u ≡ b → cond b (suc (count u done)) (count u done) ≡ (told log walk).steps u → count u done ≡ length (notes_of walk u)
      full_by u true e total_u =
          let same : t ≡ u = eqb-true t u e in
          let one : (told log walk).steps u ≡ length (notes_of walk u) + 1 =
          subst (λ (v : ℕ). (told log walk).steps v ≡ length (notes_of walk v) + 1) same (fault_steps log walk t here.fault here.ends) in
          omega (arith, total_u, one)
      full_by u false e total_u = omega (arith, total_u, at_least log walk u, built_few walk u done follows.built follows.counted)

agrees_runs : (image : Layout) (told : Told) (state : State) (done : List Pos) (schedule : List ℕ) → Agrees image told state done schedule → Runs image state schedule
agrees_runs image told state done [] agrees = tt
agrees_runs image told state done (t ∷ schedule) agrees = (agrees.0, agrees_runs image told (step image state t).state (next_of t done ∷ done) schedule agrees.2)

-- A run of all told steps, whose calls are the records in their order, has the log where it notes what is told.
pub agrees_has : (image : Layout) (log : Log) (walk : Walk) (schedule : List ℕ) → IsWalk image log walk → CallsFit log → log.version ≡ 1 → Total (told log walk) [] schedule
    → ((p : Pos) → In p (places schedule) → IsPlace (told log walk) p) → records_of (events_along (told log walk) (all_done [] schedule)) ≡ log.calls
    → Agrees image (told log walk) (opening image (tape_of log)) [] schedule → HasLog image log schedule
agrees_has image log walk schedule is fit version total only records agrees =
    let start : State = opening image (tape_of log) in
    let last : State = final image start schedule in
    let happened : List Event = events image start schedule in
    let run : RunEnds image log walk (tape_of log) [] start schedule =
    agrees_ends image log walk (tape_of log) [] start schedule is fit (follows_opening image log walk (tape_of log)) (keeps_opening image (told log walk) (tape_of log)) only agrees in
    let counts : (u : ℕ) → count u (all_done [] schedule) ≡ (told log walk).steps u = λ (u : ℕ). count_all u [] schedule ∙ total u in
    record {
      runs = agrees_runs image (told log walk) start [] schedule agrees;
      log_is = by_end (all_done [] schedule) last happened run.1 counts run.0 (ap records_of run.0 ∙ records);
    } where
      by_end : (all : List Pos) (state : State) (happened : List Event) → Ends image log walk (tape_of log) all state → ((u : ℕ) → count u all ≡ (told log walk).steps u)
          → happened ≡ events_along (told log walk) all → records_of happened ≡ log.calls → log_of state happened ≡ log
      by_end all state happened (Stood follows keeps) counts is_all recs = has_stood image log walk all state happened is fit version counts is_all recs follows keeps
      by_end all state happened (Fell {done = done} {before = before} {t = t} all_is here follows keeps threads calls halts_so) counts is_all recs =
          has_fallen image log walk done before state t happened is fit version
          (λ (u : ℕ). ap (count u) (sym all_is) ∙ counts u) (is_all ∙ ap (events_along (told log walk)) all_is) recs here follows keeps threads halts_so

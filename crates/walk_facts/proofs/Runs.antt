-- Along a run of a schedule that a guided walk fits, each step is what the walk has there.
use Rattle.std.specs.Prelude.{◌≡◌, ℕ, suc, ◌+◌, ◌<◌, ◌≤◌, Bool, true, false, List, [], ◌∷◌, ◌++◌, length, slice_get, Option, Some, refl}
use Rattle.std.proofs.Common.{sym, ◌∙◌, ap, subst, arith, inl, inr, eqb, eq-eqb, ltb}
use Rattle.std.proofs.lemmas.Bool.{eqb-true, false≢true, ltb-true, ltb-false}
use Rattle.std.proofs.lemmas.List.{length-append}
use Rattle.elf_image.specs.declared.write.Write.{Write}
use Rattle.elf_image.specs.Layout.{Layout}
use Rattle.odr_log.specs.declared.log.CallRec.{CallRec}
use Rattle.odr_log.specs.declared.log.Cause.{Cause}
use Rattle.odr_log.specs.declared.log.Log.{Log}
use Rattle.odr_log.specs.declared.log.Pos.{Pos}
use Rattle.odr_log.specs.Tape.{tape_of}
use Rattle.rv_model.specs.declared.hearing.Heard.{Heard}
use Rattle.rv_model.specs.declared.hearing.Outcome.{Outcome}
use Rattle.rv_model.specs.declared.hearing.Outcome.TheVariants.{Faults, Goes}
use Rattle.rv_model.specs.declared.state.Calls.{Calls}
use Rattle.rv_model.specs.declared.state.Core.{Core}
use Rattle.rv_model.specs.declared.state.Note.{Note}
use Rattle.rv_model.specs.declared.state.Note.TheVariants as note
use Rattle.rv_model.specs.declared.state.State.{State}
use Rattle.rv_model.specs.declared.state.Stepped.{Stepped}
use Rattle.rv_model.specs.declared.state.Thread.{Thread}
use Rattle.rv_model.specs.Calls.{made}
use Rattle.rv_model.specs.CallsFit.{CallsFit}
use Rattle.rv_model.specs.Noted.{note_in, writes_in}
use Rattle.rv_model.specs.Run.{HasLog, events, final, log_of, logged}
use Rattle.rv_model.specs.Step.{after_effect, applied, memory_of, opening, step, thread_at}
use Rattle.rv_model.specs.Walk.{IsWalk, Walk, notes_of}
use Rattle.rv_model.proofs.LogParts.{length-thread_logs}
use Rattle.rv_model.proofs.Progress.{IsQuiet as IsSound, quiet-act_at}
use Rattle.guided_walk.specs.Fits.{Fits, FitsAlong}
use Rattle.guided_walk.specs.Guided.{Given, IsGuided, Seen, Visit, Visits, at, hears, instr_of, joined_from, joins, seen_before, visit, went}
use Rattle.guided_walk.specs.Run.{SuitsAt, Suits, calls_along, halts, record_calls, value_of}
use Rattle.guided_walk.specs.Schedules.{count, next_of, places, places_after, times}
use Rattle.guided_walk.specs.Told.{IsPlace, Told, last_fault, noted, told}
use Rattle.guided_walk.specs.Woven.{Woven}
use Rattle.guided_walk.proofs.Agree.{step_note}
use Rattle.guided_walk.proofs.Along.{GoesOn, Inv, MakesNext, Next, Sound, count_other, count_own, inv_opening, inv_step, outcome_by, reserving_by, step_is}
use Rattle.guided_walk.proofs.CallOrder.{Splits}
use Rattle.guided_walk.proofs.Facts.{CalledAt, called_place, sound_by}
use Rattle.guided_walk.proofs.Here.{walk_outcome}
use Rattle.guided_walk.proofs.LoggedRun.{fault_steps}
use Rattle.guided_walk.proofs.Records.{among_at}
use Rattle.guided_walk.proofs.ScheduleLaw.{IsPlaced, notes_are, placed, schedule_law}
use Rattle.guided_walk.proofs.Shared.{along_alike, makes_next, suits_alike}
use Rattle.guided_walk.proofs.Standing.{suits_along, threads_opening}
use Rattle.guided_walk.proofs.Whole.{FaultHere, all_done, count_all, place_kind}
use Rattle.walk_facts.specs.Runs.{EndLaw, RunLaw, RunsAs, end_of_walk, local_in, state_after}
use Rattle.walk_facts.specs.Steps.{step_of}

-- ---- one step

applied_writes : (core : Core) (t : ℕ) (reservation : Option ℕ) (o : Outcome) → (applied core t reservation o).writes ≡ writes_in o
applied_writes core t reservation (Faults fault) = refl
applied_writes core t reservation (Goes local writes shown) = refl

step_writes : (image : Layout) (state : State) (t : ℕ)
    → (step image state t).state.writes ≡ writes_in (outcome_by image (memory_of image state) state.core.calls t (thread_at state.core t)) ++ state.writes
step_writes image state t =
    ap (λ (s : Stepped). s.state.writes) (step_is image state t)
    ∙ ap (λ (ws : List Write). ws ++ state.writes)
    (applied_writes state.core t (reserving_by image (thread_at state.core t)) (outcome_by image (memory_of image state) state.core.calls t (thread_at state.core t)))

-- each thread is where the walk has it after these steps
abbrev Stand : Layout → Told → Visits → List Pos → State → Type 0
Stand image told v done state = (u : ℕ) → u < length state.core.threads → local_in state u ≡ (seen_before image told v u (count u done)).local

-- the rest of a run
abbrev Goon : Layout → Told → Visits → List Pos → State → List ℕ → Type 0
Goon image told v done state [] = Stand image told v done state
Goon image told v done state (t ∷ schedule) =
    RunsAs image (at v (next_of t done)) state t × Goon image told v (next_of t done ∷ done) (step image state t).state schedule

stand_by : (image : Layout) (told : Told) (tape : List ℕ) (v : Visits) (done : List Pos) (state : State) → Inv image told tape v done state → Stand image told v done state
stand_by image told tape v done state inv u less = ap (λ (x : Thread). x.local) (inv.threads u less)

none_after : (done : List Pos) (schedule : List ℕ) → places_after done schedule ≡ [] → schedule ≡ []
none_after done [] e = refl
none_after done (t ∷ schedule) e = absurd (let h : (next_of t done ∷ places_after (next_of t done ∷ done) schedule) ≡ [] = e in cc)

-- a fault leaves each thread where it was
stand_fault : (image : Layout) (told : Told) (v : Visits) (done : List Pos) (state : State) (t : ℕ) (fault : Cause) → Stand image told v done state
    → outcome_by image (memory_of image state) state.core.calls t (thread_at state.core t) ≡ Faults fault
    → (at v (next_of t done)).seen ≡ seen_before image told v t (count t done) → (at v (next_of t done)).outcome ≡ Faults fault
    → Stand image told v (Next t done) (step image state t).state
stand_fault image told v done state t fault stand falls seen outcome =
    let p : Pos = next_of t done in
    let is : step image state t ≡ after_effect state (applied state.core t (reserving_by image (thread_at state.core t)) (Faults fault)) =
    step_is image state t ∙ ap (λ (o : Outcome). after_effect state (applied state.core t (reserving_by image (thread_at state.core t)) o)) falls in
    subst (λ (s : Stepped). Stand image told v (Next t done) s.state) (sym is)
    (λ (u : ℕ) (less : u < length state.core.threads). stand u less ∙ sym (stays u (eqb u t) refl)) where
      stays : (u : ℕ) (b : Bool) → eqb u t ≡ b → (seen_before image told v u (count u (Next t done))).local ≡ (seen_before image told v u (count u done)).local
      stays u true e =
          let same : u ≡ t = eqb-true u t e in
          subst (λ (w : ℕ). (seen_before image told v w (count w (Next t done))).local ≡ (seen_before image told v w (count w done)).local) (sym same)
          (ap (λ (n : ℕ). (seen_before image told v t n).local) (count_own t done)
          ∙ ap (λ (o : Outcome). (went image (at v (next_of t done)).seen o).local) outcome
          ∙ ap (λ (x : Seen). x.local) seen)
      stays u false e = ap (λ (n : ℕ). (seen_before image told v u n).local) (count_other t u done (λ (same : u ≡ t). false≢true (sym e ∙ eq-eqb u t same)))

-- the rest after a step, by what the step does
goon_by : (image : Layout) (told : Told) (given : Given) (tape : List ℕ) (v : Visits) (done : List Pos) (state : State) (t : ℕ) (schedule : List ℕ) (o : Outcome)
    → Sound told → IsGuided image told given v → Inv image told tape v done state → t < length state.core.threads
    → SuitsAt told (calls_along told (value_of v) tape done) (next_of t done)
    → (halts (noted told (next_of t done)) ≡ true → places_after (next_of t done ∷ done) schedule ≡ [])
    → (at v (next_of t done)).outcome ≡ o
    → outcome_by image (memory_of image state) state.core.calls t (thread_at state.core t) ≡ (at v (next_of t done)).outcome
    → (Inv image told tape v (next_of t done ∷ done) (step image state t).state → Goon image told v (next_of t done ∷ done) (step image state t).state schedule)
    → Goon image told v (next_of t done ∷ done) (step image state t).state schedule
goon_by image told given tape v done state t schedule (Faults fault) sound guided inv there here last e outcome again =
    let p : Pos = next_of t done in
    let shows : noted told p ≡ note.Faulted fault = sym (guided.shows p here.place) ∙ ap note_in e in
    let ended : schedule ≡ [] = none_after (p ∷ done) schedule (last (ap halts shows)) in
    subst (λ (s : List ℕ). Goon image told v (p ∷ done) (step image state t).state s) (sym ended)
    (stand_fault image told v done state t fault (stand_by image told tape v done state inv) (outcome ∙ e) (ap (λ (x : Visit). x.seen) (guided.solves p here.place)) e)
goon_by image told given tape v done state t schedule (Goes local writes shown) sound guided inv there here last e outcome again =
    let p : Pos = next_of t done in
    let shown_is : shown ≡ noted told p = ap note_in (sym e) ∙ guided.shows p here.place in
    let goes : GoesOn image told v done t local writes shown = record {
      place = here.place;
      seen = ap (λ (x : Visit). x.seen) (guided.solves p here.place);
      outcome = e;
      shows = shown_is;
    } in
    let makes : MakesNext (length state.core.threads) shown =
    subst (λ (n : ℕ). MakesNext n shown) (sym (inv.many ∙ ap made inv.calls))
    (subst (λ (n : Note). MakesNext (made (calls_along told (value_of v) tape done)) n) (sym shown_is)
    (makes_next (calls_along told (value_of v) tape done) t (noted told p) here.answered)) in
    again (inv_step image told tape v done state t local writes shown sound inv there goes makes (outcome ∙ e))

goon : (image : Layout) (told : Told) (given : Given) (tape : List ℕ) (v : Visits) (done : List Pos) (state : State) (schedule : List ℕ)
    → Sound told → IsGuided image told given v → Inv image told tape v done state
    → Suits told tape done (places_after done schedule) → FitsAlong image given v done (places_after done schedule) → Goon image told v done state schedule
goon image told given tape v done state [] sound guided inv suits fits = stand_by image told tape v done state inv
goon image told given tape v done state (t ∷ schedule) sound guided inv suits fits =
    let p : Pos = next_of t done in
    let calls : Calls = calls_along told (value_of v) tape done in
    let here : SuitsAt told calls p = suits_alike told (record_calls told tape done) calls p (along_alike told (λ (q : Pos). 0) (value_of v) tape done) suits.0 in
    let there : t < length state.core.threads = omega (arith, here.exists, inv.many, ap made inv.calls) in
    let solves : at v p ≡ visit image told given v t (count t done) = guided.solves p here.place in
    let outcome : outcome_by image (memory_of image state) state.core.calls t (thread_at state.core t) ≡ (at v p).outcome =
    walk_outcome image told given tape v done state t sound inv there solves (guided.shows p here.place) fits.0 here.answered in (
      record {
        there = there;
        seen = stand_by image told tape v done state inv t there ∙ sym (ap (λ (x : Visit). x.seen.local) solves);
        writes = step_writes image state t ∙ ap (λ (o : Outcome). writes_in o ++ state.writes) outcome;
        note = step_note image state t ∙ ap note_in outcome;
      },
      goon_by image told given tape v done state t schedule (at v p).outcome sound guided inv there here suits.1 refl outcome
          (λ (next : Inv image told tape v (p ∷ done) (step image state t).state).
          goon image told given tape v (p ∷ done) (step image state t).state schedule sound guided next suits.2 fits.1),
    )

-- ---- at each entry and at the end

goon_at : (image : Layout) (told : Told) (v : Visits) (done : List Pos) (state : State) (front rest : List ℕ) (t : ℕ) → Goon image told v done state (front ++ t ∷ rest)
    → RunsAs image (at v (next_of t (all_done done front))) (final image state front) t
goon_at image told v done state [] rest t goes = goes.0
goon_at image told v done state (u ∷ front) rest t goes = goon_at image told v (next_of u done ∷ done) (step image state u).state front rest t goes.1

goon_end : (image : Layout) (told : Told) (v : Visits) (done : List Pos) (state : State) (schedule : List ℕ) → Goon image told v done state schedule
    → Stand image told v (all_done done schedule) (final image state schedule)
goon_end image told v done state [] goes = goes
goon_end image told v done state (t ∷ schedule) goes = goon_end image told v (next_of t done ∷ done) (step image state t).state schedule goes.1

-- the records stand among the steps to come
first_split : (image : Layout) (log : Log) (walk : Walk) (schedule : List ℕ) → IsWalk image log walk → IsPlaced image log walk schedule → Splits log [] (places schedule) 0
first_split image log walk schedule is p = record {
  past = λ (m : ℕ) (r : CallRec) (e : slice_get log.calls m ≡ Some r) (less : m < 0). absurd (omega (arith, less));
  rest = λ (m : ℕ) (r : CallRec) (e : slice_get log.calls m ≡ Some r) (le : 0 ≤ m).
      let here : CalledAt log walk r = called_place image log walk is r (among_at log.calls m r e) in
      p.all (step_of r.tid r.at) (omega (arith, here.within, length-append (notes_of walk r.tid) (last_fault log.end r.tid)));
}

whole_run : (image : Layout) (log : Log) (walk : Walk) (given : Given) (v : Visits) (pairs : List (Pos × Pos)) (schedule : List ℕ)
    → IsWalk image log walk → CallsFit log → Woven log pairs schedule → IsGuided image (told log walk) given v → Fits image given v schedule
    → Goon image (told log walk) v [] (opening image (tape_of log)) schedule
whole_run image log walk given v pairs schedule is fit woven guided fits =
    let p : IsPlaced image log walk schedule = placed image log walk pairs schedule is fit woven in
    goon image (told log walk) given (tape_of log) v [] (opening image (tape_of log)) schedule (sound_by image log walk is fit) guided
    (inv_opening image (told log walk) (tape_of log) v)
    (suits_along image log walk (tape_of log) [] schedule 0 is fit (threads_opening (told log walk) (tape_of log)) tt p.come (first_split image log walk schedule is p) fit.pass)
    fits

pub run_law : RunLaw
run_law image log walk given v pairs schedule is fit woven guided fits front rest t e =
    let goes : Goon image (told log walk) v [] (opening image (tape_of log)) (front ++ t ∷ rest) =
    subst (Goon image (told log walk) v [] (opening image (tape_of log))) e (whole_run image log walk given v pairs schedule is fit woven guided fits) in
    let many : count t (all_done [] front) ≡ times t front = count_all t [] front ∙ (let z : 0 + times t front ≡ times t front = omega arith in z) in
    subst (λ (s : ℕ). RunsAs image (at v (step_of t s)) (state_after image log front) t) many (goon_at image (told log walk) v [] (opening image (tape_of log)) front rest t goes)

-- ---- after the counted steps

went_fault : (image : Layout) (seen : Seen) (o : Outcome) (fault : Cause) → IsSound o → note_in o ≡ note.Faulted fault → went image seen o ≡ seen
went_fault image seen (Faults other) fault sound e = refl
went_fault image seen (Goes local writes shown) fault sound e = absurd (subst (λ (n : Note). IsSound (Goes local writes n)) e sound)

-- a thread stays at its fault
after_all : (image : Layout) (log : Log) (walk : Walk) (given : Given) (v : Visits) → IsWalk image log walk → IsGuided image (told log walk) given v → (u : ℕ)
    → (seen_before image (told log walk) v u ((told log walk).steps u)).local ≡ end_of_walk image (told log walk) log v u
after_all image log walk given v is guided u = by_test (ltb n ((told log walk).steps u)) refl where
  n : ℕ
  n = (logged log u).steps

  many : length (notes_of walk u) ≡ n
  many = notes_are image log walk is u

  at_fault : FaultHere log walk (step_of u n) → IsPlace (told log walk) (step_of u n) → (seen_before image (told log walk) v u ((told log walk).steps u)).local ≡ (seen_before image (told log walk) v u n).local
  at_fault fault place =
      let p : Pos = step_of u n in
      let one : (told log walk).steps u ≡ suc n = omega (arith, fault_steps log walk u fault.fault fault.ends, many) in
      let seen : Seen = seen_before image (told log walk) v u n in
      let heard : Heard = hears image (told log walk) given u n seen (joined_from (told log walk) v (joins (noted (told log walk) p))) in
      let here : Visit = visit image (told log walk) given v u n in
      let solves : at v p ≡ here = guided.solves p place in
      ap (λ (k : ℕ). (seen_before image (told log walk) v u k).local) one
      ∙ ap (λ (x : Visit). (went image x.seen x.outcome).local) solves
      ∙ ap (λ (x : Seen). x.local)
      (went_fault image seen here.outcome fault.fault (quiet-act_at seen.local (instr_of image seen) heard)
      (ap (λ (x : Visit). note_in x.outcome) (sym solves) ∙ guided.shows p place ∙ fault.note))

  by_test : (b : Bool) → ltb n ((told log walk).steps u) ≡ b → (seen_before image (told log walk) v u ((told log walk).steps u)).local ≡ (seen_before image (told log walk) v u n).local
  by_test true e =
      let place : IsPlace (told log walk) (step_of u n) = ltb-true n ((told log walk).steps u) e in
      elim (place_kind log walk (step_of u n) place) [
        | inl within ↦ absurd (omega (arith, within, many))
        | inr fault ↦ at_fault fault place
      ]
  by_test false e =
      let no_fewer : (told log walk).steps u ≤ n = ltb-false n ((told log walk).steps u) e in
      let same : (told log walk).steps u ≡ n = omega (arith, no_fewer, many, length-append (notes_of walk u) (last_fault log.end u)) in
      ap (λ (k : ℕ). (seen_before image (told log walk) v u k).local) same

threads_logged : (image : Layout) (log : Log) (schedule : List ℕ) → HasLog image log schedule → length (state_after image log schedule).core.threads ≡ length log.threads
unfolding log_of
threads_logged image log schedule has =
    sym (length-thread_logs 0 (state_after image log schedule).core.threads (events image (opening image (tape_of log)) schedule))
    ∙ ap (λ (l : Log). length l.threads) has.log_is

pub end_law : EndLaw
end_law image log walk given v pairs schedule version is fit woven guided fits u less =
    let p : IsPlaced image log walk schedule = placed image log walk pairs schedule is fit woven in
    let has : HasLog image log schedule = (schedule_law image log walk pairs schedule version is fit woven).1 (record { given = given; visits = v; guided = guided; fits = fits }) in
    let there : u < length (state_after image log schedule).core.threads = omega (arith, less, threads_logged image log schedule has) in
    let steps : count u (all_done [] schedule) ≡ (told log walk).steps u = count_all u [] schedule ∙ p.total u in (
      there,
      goon_end image (told log walk) v [] (opening image (tape_of log)) schedule (whole_run image log walk given v pairs schedule is fit woven guided fits) u there
          ∙ ap (λ (n : ℕ). (seen_before image (told log walk) v u n).local) steps
          ∙ after_all image log walk given v is guided u,
    )

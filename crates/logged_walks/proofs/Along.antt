-- What each thread does in a run, by an induction on its schedule.
use Rattle.std.specs.Prelude.{◌≡◌, ℕ, ◌+◌, ◌<◌, ◌≤◌, Bool, true, false, cond, List, [], ◌∷◌, length, nat_eq, Some, None, is_none, refl}
use Rattle.std.proofs.Common.{sym, ◌∙◌, ap, subst, arith, inl, inr, get_or, eqb, eq-eqb}
use Rattle.std.proofs.lemmas.Bool.{cases_lt, eqb-true, false≢true, false_from_ne_true}
use Rattle.std.proofs.lemmas.List.{get_or_past, length_push}
use Rattle.std.proofs.lemmas.List.Elements.{All-nil}
use Rattle.elf_image.specs.Layout.{Layout}
use Rattle.odr_log.specs.declared.log.Call.{Call}
use Rattle.odr_log.specs.declared.log.Call.TheVariants as call
use Rattle.odr_log.specs.declared.log.CallRec.{CallRec}
use Rattle.odr_log.specs.declared.log.Cause.{Cause}
use Rattle.odr_log.specs.declared.log.PathItem.{PathItem}
use Rattle.rv_model.specs.declared.state.Thread.{Thread}
use Rattle.rv_model.specs.declared.state.Core.{Core}
use Rattle.rv_model.specs.declared.state.Note.{Note}
use Rattle.rv_model.specs.declared.state.Note.TheVariants as note
use Rattle.rv_model.specs.declared.state.State.{State}
use Rattle.rv_model.specs.declared.state.Stepped.{Stepped}
use Rattle.rv_model.specs.Thread.{no_thread}
use Rattle.rv_model.specs.Calls.{made, end_value, first_argument}
use Rattle.rv_model.specs.Run.{Runs, final, events, event_of, cons_some, path_of, records_of}
use Rattle.rv_model.specs.Step.{thread_at, calls_then, step}
use Rattle.rv_model.specs.Walk.{is_last, records_by, makes}
use Rattle.rv_model.proofs.SpawnLemmas.{spawn_makes}
use Rattle.guided_walk.proofs.Facts.{made_by_call}
use Rattle.guided_walk.proofs.Records.{rec}
use Rattle.walk_orders.proofs.Runs.{halted_rest}
use Rattle.logged_walks.proofs.Steps.{pc_of, retired_of, Many, Ready, ready, Fell, IsNew, Went, StepOf, Falls, Moves, step_of}
use Rattle.logged_walks.proofs.Halts.{by_call, event_at}
use Rattle.logged_walks.proofs.Threads.{begun_now, spawns, begun_later}
use Rattle.logged_walks.proofs.Runs.{Over, ThreadRun, Starts, Does, own_run, other_run}

-- ---- a step that falls

fault_path : (u t at : ℕ) (fault : Cause) → [] ≡ path_of u (event_at t at (note.Faulted fault) ∷ [])
fault_path u t at fault = by_test (nat_eq t u) where
  by_test : (b : Bool) → [] ≡ cond b (cons_some {A = PathItem} None []) []
  by_test true = refl
  by_test false = refl

fallen_run : (image : Layout) (state : State) (t : ℕ) (fault : Cause) → Fell image state t fault (step image state t)
    → (u : ℕ) → u < length (step image state t).state.core.threads → Does image state (event_of image state t ∷ []) (step image state t).state.core u
fallen_run image state t fault fell u less =
    let last : Core = (step image state t).state.core in
    let k : ℕ = retired_of state.core t in
    let same : thread_at last u ≡ thread_at state.core u = ap (λ (ts : List Thread). get_or ts u no_thread) fell.threads in (
      pc_of state.core u,
      inl (omega (arith, less, ap (λ (ts : List Thread). length ts) fell.threads), refl),
      record {
        places = [];
        notes = [];
        leads = ap (λ (x : Thread). x.local.pc) (sym same);
        steps = let e : retired_of last u ≡ retired_of state.core u = ap (λ (x : Thread). x.retired) same in omega (arith, e);
        path = subst (λ (n : Note). [] ≡ path_of u (event_at t k n ∷ [])) (sym fell.note) (fault_path u t k fault);
        calls = subst (λ (n : Note). [] ≡ records_by u (records_of (event_at t k n ∷ []))) (sym fell.note) refl;
        ends = λ (i j : ℕ) (d : Note) (below : i < j) (within : j < 0). absurd (omega (arith, within));
        live = λ (alive : end_value last.calls u ≡ None) (running : by_call last.halt ≡ None). All-nil (λ shown. is_last shown ≡ false);
        still = λ (over : Over state u). refl;
      },
    )

-- ---- every thread

-- no spawn that goes on is of a thread behind the next
spawns_none : (image : Layout) (state : State) (t u : ℕ) (s : Stepped) → Many state → Went image state t s → length s.state.core.threads ≤ u → spawns u s.note ≡ false
spawns_none image state t u s many went past = by_note s.note refl where
  called_some : (c : Call) → s.note ≡ note.Called c → makes u c ≡ true → ⊥
  called_some c is e =
      let spawn : (entry : ℕ) × (c ≡ call.Spawn entry (Some u)) = made_by_call u c e in
      let next : length state.core.threads ≡ u =
      many ∙ spawn_makes state.core.calls (rec t (retired_of state.core t) c) spawn.0 u spawn.1 (went.fits c is) in
      let more : made s.state.core.calls ≡ made state.core.calls + 1 =
      ap made (went.calls ∙ ap (λ (n : Note). calls_then state.core.calls t (first_argument (thread_at state.core t).local) n) (is ∙ ap (λ (x : Call). note.Called x) spawn.1))
      ∙ length_push state.core.calls.ended None in
      absurd (omega (arith, next, more, many, went.many, past))

  by_note : (n : Note) → s.note ≡ n → spawns u n ≡ false
  by_note (note.Called made) is = false_from_ne_true (makes u made) (called_some made is)
  by_note note.Nothing is = refl
  by_note (note.Branch taken) is = refl
  by_note (note.Jump target) is = refl
  by_note (note.Faulted fault) is = refl

absent : (state : State) (u : ℕ) → length state.core.threads ≤ u → retired_of state.core u ≡ 0
absent state u past = ap (λ (x : Thread). x.retired) (get_or_past state.core.threads u no_thread past)

went_run : (image : Layout) (state : State) (t u : ℕ) (schedule : List ℕ) → Many state → Ready image state t → Runs image (step image state t).state schedule → Went image state t (step image state t)
    → Does image (step image state t).state (events image (step image state t).state schedule) (final image (step image state t).state schedule).core u
    → Does image state (events image state (t ∷ schedule)) (final image state (t ∷ schedule)).core u
went_run image state t u schedule many able runs went (start, starts, run) = elim (cases_lt u (length state.core.threads)) [
  | inl old ↦ there old (begins old starts) (eqb u t) refl
  | inr past ↦ elim starts [
    | inl now ↦ (let is : IsNew state s u = went.new u past now.0 in (
      start,
      inr (past, begun_now u t k start s.note later (is.spawned ∙ ap (λ (a : ℕ). note.Called (call.Spawn a (Some u))) (sym now.1))),
      other_run image state t u schedule start able went (apart past) (is.retired ∙ sym (absent state u past)) run,
    ))
    | inr more ↦ (
      start,
      inr (past, begun_later u t k start s.note later (spawns_none image state t u s many went more.0) more.1),
      other_run image state t u schedule start able went (apart past) (absent s.state u more.0 ∙ sym (absent state u past)) run,
    )
  ]
] where
  s : Stepped
  s = step image state t

  k : ℕ
  k = retired_of state.core t

  later : List CallRec
  later = records_of (events image s.state schedule)

  apart : length state.core.threads ≤ u → u ≡ t → ⊥
  apart past same = absurd (omega (arith, past, same, able.there))

  begins : u < length state.core.threads → Starts s.state (events image s.state schedule) u start → start ≡ pc_of s.state.core u
  begins old (inl now) = now.1
  begins old (inr more) = absurd (omega (arith, old, more.0, went.more))

  there : u < length state.core.threads → start ≡ pc_of s.state.core u → (b : Bool) → eqb u t ≡ b → Does image state (events image state (t ∷ schedule)) (final image state (t ∷ schedule)).core u
  there old begin true e =
      let same : u ≡ t = eqb-true u t e in
      subst (λ (v : ℕ). Does image state (events image state (t ∷ schedule)) (final image state (t ∷ schedule)).core v) (sym same) (
        pc_of state.core t,
        inl (able.there, refl),
        own_run image state t schedule start many able went.many runs went (begin ∙ ap (pc_of s.state.core) same)
            (subst (λ (v : ℕ). ThreadRun image s.state (events image s.state schedule) (final image s.state schedule).core v start) same run),
      )
  there old begin false e =
      let ne : u ≡ t → ⊥ = λ (same : u ≡ t). false≢true (sym e ∙ eq-eqb u t same) in (
        start,
        inl (old, begin ∙ went.other_pc u old ne),
        other_run image state t u schedule start able went ne (went.other_retired u old ne) run,
      )

pub run_threads : (image : Layout) (state : State) (schedule : List ℕ) → Many state → Runs image state schedule
    → (u : ℕ) → u < length (final image state schedule).core.threads → Does image state (events image state schedule) (final image state schedule).core u
run_threads image state [] many runs u less = (
  pc_of state.core u,
  inl (less, refl),
  record {
    places = [];
    notes = [];
    leads = refl;
    steps = omega arith;
    path = refl;
    calls = refl;
    ends = λ (i j : ℕ) (d : Note) (below : i < j) (within : j < 0). absurd (omega (arith, within));
    live = λ (alive : end_value state.core.calls u ≡ None) (running : by_call state.core.halt ≡ None). All-nil (λ shown. is_last shown ≡ false);
    still = λ (over : Over state u). refl;
  },
)
run_threads image state (t ∷ schedule) many runs u less =
    by_step (step_of image state t many runs.0)
    (λ (many_next : Many (step image state t).state). run_threads image (step image state t).state schedule many_next runs.1 u less) where
      next : State
      next = (step image state t).state

      by_step : StepOf image state t (step image state t) → (Many next → Does image next (events image next schedule) (final image next schedule).core u)
          → Does image state (events image state (t ∷ schedule)) (final image state (t ∷ schedule)).core u
      by_step (Falls {fault = fault} fell) again =
          let ended : schedule ≡ [] = halted_rest image next schedule runs.1 (ap is_none fell.halts) in
          subst (λ (x : List ℕ). Does image state (event_of image state t ∷ events image next x) (final image next x).core u) (sym ended)
          (fallen_run image state t fault fell u (subst (λ (x : List ℕ). u < length (final image next x).core.threads) ended less))
      by_step (Moves went) again = went_run image state t u schedule many (ready image state t runs.0) runs.1 went (again went.many)

-- Along a run: what each thread does from a state on.
use Rattle.std.specs.Prelude.{◌≡◌, ℕ, ◌+◌, ◌<◌, ◌≤◌, ◌⊎◌, Bool, true, false, List, [], ◌∷◌, length, Some, None, is_some, is_none, All, AllPairs, refl}
use Rattle.std.proofs.Common.{sym, ◌∙◌, ap, subst, arith, inl, inr}
use Rattle.std.proofs.lemmas.Bool.{false≢true, false_from_ne_true}
use Rattle.std.proofs.lemmas.List.{get_or-set_same}
use Rattle.std.proofs.lemmas.List.Elements.{All-nil, All-cons}
use Rattle.std.proofs.lemmas.List.Kept.{AllPairs-cons}
use Rattle.elf_image.specs.Layout.{Layout}
use Rattle.odr_log.specs.declared.log.Call.TheVariants as call
use Rattle.rv_model.specs.declared.state.Calls.{Calls}
use Rattle.rv_model.specs.declared.state.Core.{Core}
use Rattle.rv_model.specs.declared.state.Event.{Event}
use Rattle.rv_model.specs.declared.state.Halt.TheVariants as halt
use Rattle.rv_model.specs.declared.state.Note.{Note}
use Rattle.rv_model.specs.declared.state.Note.TheVariants as note
use Rattle.rv_model.specs.declared.state.State.{State}
use Rattle.rv_model.specs.declared.state.Stepped.{Stepped}
use Rattle.rv_model.specs.declared.walk.Place.{Place}
use Rattle.rv_model.specs.Calls.{end_value, first_argument}
use Rattle.rv_model.specs.Run.{Runs, final, events, path_of, records_of}
use Rattle.rv_model.specs.Step.{thread_at, calls_then, halt_then, step}
use Rattle.rv_model.specs.Walk.{Leads, events_from, is_last, records_by}
use Rattle.walk_orders.proofs.Runs.{halted_rest}
use Rattle.logged_walks.proofs.Steps.{pc_of, retired_of, Many, Ready, Went, StepOf, Falls, Moves, step_of, many_on}
use Rattle.logged_walks.proofs.Halts.{by_call}
use Rattle.logged_walks.proofs.Threads.{path_other, own_path, own_records, other_records, Begun, ended_stays}

-- ---- what is said of a thread

-- it has ended, or the machine has halted
abbrev pub Over : State → ℕ → Type 0
Over state u = (is_some (end_value state.core.calls u) ≡ true) ⊎ (is_none state.core.halt ≡ false)

-- what a thread does from a state on, in these events and up to this end, from an address on
pub record ThreadRun (image : Layout) (state : State) (es : List Event) (last : Core) (u start : ℕ) : Type 0 where
  pub places : List Place
  pub notes : List Note
  pub leads : Leads image start places notes (pc_of last u)
  pub steps : retired_of state.core u + length places ≡ retired_of last u
  pub path : path_of u (events_from u (retired_of state.core u) notes) ≡ path_of u es
  pub calls : records_of (events_from u (retired_of state.core u) notes) ≡ records_by u (records_of es)
  pub ends : AllPairs (λ earlier later. is_last earlier ≡ false) notes
  pub live : end_value last.calls u ≡ None → by_call last.halt ≡ None → All (λ shown. is_last shown ≡ false) notes
  pub still : Over state u → notes ≡ []

-- it is there and begins where it is, or a spawn in these events makes it and it begins at that spawn's entry
abbrev pub Starts : State → List Event → ℕ → ℕ → Type 0
Starts state es u start = ((u < length state.core.threads) × (start ≡ pc_of state.core u)) ⊎ ((length state.core.threads ≤ u) × Begun (records_of es) u start)

abbrev pub Does : Layout → State → List Event → Core → ℕ → Type 0
Does image state es last u = (start : ℕ) × Starts state es u start × ThreadRun image state es last u start

-- ---- a thread's end is kept

run_ended : (image : Layout) (state : State) (schedule : List ℕ) (u : ℕ) → Many state → Runs image state schedule
    → is_some (end_value state.core.calls u) ≡ true → is_some (end_value (final image state schedule).core.calls u) ≡ true
run_ended image state [] u many runs e = e
run_ended image state (t ∷ schedule) u many runs e =
    let s : Stepped = step image state t in
    let is : StepOf image state t s = step_of image state t many runs.0 in
    run_ended image s.state schedule u (many_on image state t s many is) runs.1 (by_step s is) where
      by_step : (s : Stepped) → StepOf image state t s → is_some (end_value s.state.core.calls u) ≡ true
      by_step s (Falls fell) = ap (λ (c : Calls). is_some (end_value c u)) fell.calls ∙ e
      by_step s (Moves went) =
          ap (λ (c : Calls). is_some (end_value c u)) went.calls ∙ ended_stays state.core.calls t (first_argument (thread_at state.core t).local) s.note u e

by_last : (n : Note) → is_last n ≡ true → (n ≡ note.Called call.EndThread) ⊎ ((code : ℕ) × (n ≡ note.Called (call.Exit code)))
by_last (note.Called call.EndThread) e = inl refl
by_last (note.Called (call.Exit code)) e = inr (code, refl)
by_last (note.Called (call.Spawn entry child)) e = absurd (false≢true e)
by_last (note.Called (call.Join target ok)) e = absurd (false≢true e)
by_last (note.Called (call.Lock mutex ok)) e = absurd (false≢true e)
by_last (note.Called (call.Unlock mutex ok)) e = absurd (false≢true e)
by_last (note.Called (call.TryLock mutex got)) e = absurd (false≢true e)
by_last (note.Called (call.Write bytes)) e = absurd (false≢true e)
by_last (note.Called call.WriteBad) e = absurd (false≢true e)
by_last (note.Called (call.Read want bytes)) e = absurd (false≢true e)
by_last (note.Called call.ReadBad) e = absurd (false≢true e)
by_last (note.Called call.SelfId) e = absurd (false≢true e)
by_last (note.Called call.Yield) e = absurd (false≢true e)
by_last (note.Called (call.Unknown number)) e = absurd (false≢true e)
by_last note.Nothing e = absurd (false≢true e)
by_last (note.Branch taken) e = absurd (false≢true e)
by_last (note.Jump target) e = absurd (false≢true e)
by_last (note.Faulted fault) e = absurd (false≢true e)

-- after its last step a thread has ended, or the machine has exited
abbrev Ended : State → ℕ → Type 0
Ended state t = (is_some (end_value state.core.calls t) ≡ true) ⊎ ((code : ℕ) × (state.core.halt ≡ Some (halt.Exited t code)))

last_ends : (image : Layout) (state : State) (t : ℕ) (s : Stepped) → Many state → t < length state.core.threads → Went image state t s → is_last s.note ≡ true → Ended s.state t
last_ends image state t s many there went e = elim (by_last s.note e) [
  | inl ends ↦ (let a : ℕ = first_argument (thread_at state.core t).local in
      inl (ap (λ (c : Calls). is_some (end_value c t)) (went.calls ∙ ap (calls_then state.core.calls t a) ends)
      ∙ ap is_some (get_or-set_same state.core.calls.ended t (Some a) None (omega (arith, there, many)))))
  | inr exits ↦ inr (exits.0, went.halts ∙ ap (halt_then t) exits.1)
]

over_ended : (state : State) (t : ℕ) → Ended state t → Over state t
over_ended state t (inl e) = inl e
over_ended state t (inr e) = inr (ap is_none e.1)

-- ---- a step of a thread

exited_some : (t code : ℕ) → Some (halt.Exited t code) ≡ None → ⊥
exited_some t code e = cc

ended_live : (image : Layout) (state : State) (schedule : List ℕ) (t : ℕ) → Many state → Runs image state schedule → Ended state t
    → end_value (final image state schedule).core.calls t ≡ None → by_call (final image state schedule).core.halt ≡ None → ⊥
ended_live image state schedule t many runs (inl e) live running = false≢true (sym (ap is_some live) ∙ run_ended image state schedule t many runs e)
ended_live image state schedule t many runs (inr e) live running =
    let none : schedule ≡ [] = halted_rest image state schedule runs (ap is_none e.1) in
    exited_some t e.0 (sym (ap by_call e.1) ∙ subst (λ (x : List ℕ). by_call (final image state x).core.halt ≡ None) none running)

last_alone : (n : Note) (notes : List Note) (b : Bool) → is_last n ≡ b → (is_last n ≡ true → notes ≡ []) → All (λ later. is_last n ≡ false) notes
last_alone n notes true e none = subst (All (λ later. is_last n ≡ false)) (sym (none e)) (All-nil (λ later. is_last n ≡ false))
last_alone n notes false e none = λ (i : ℕ) (d : Note) (less : i < length notes). e

pub own_run : (image : Layout) (state : State) (t : ℕ) (schedule : List ℕ) (start : ℕ) → Many state → Ready image state t → Many (step image state t).state
    → Runs image (step image state t).state schedule → Went image state t (step image state t) → start ≡ pc_of (step image state t).state.core t
    → ThreadRun image (step image state t).state (events image (step image state t).state schedule) (final image (step image state t).state schedule).core t start
    → ThreadRun image state (events image state (t ∷ schedule)) (final image state (t ∷ schedule)).core t (pc_of state.core t)
own_run image state t schedule start many able many_next runs went begins run =
    let s : Stepped = step image state t in
    let k : ℕ = retired_of state.core t in
    let es : List Event = events image s.state schedule in
    let last : Core = (final image s.state schedule).core in
    record {
      places = record { pc = pc_of state.core t; instr = went.instruction } ∷ run.places;
      notes = s.note ∷ run.notes;
      leads = (refl, went.fetched, (start, went.goes ∙ ap Some (sym begins), run.leads));
      steps = omega (arith, run.steps, went.retired);
      path = own_path t k s.note run.notes es (subst (λ (n : ℕ). path_of t (events_from t n run.notes) ≡ path_of t es) went.retired run.path);
      calls = own_records t k s.note (records_of (events_from t (k + 1) run.notes)) (records_of es)
          (subst (λ (n : ℕ). records_of (events_from t n run.notes) ≡ records_by t (records_of es)) went.retired run.calls);
      ends = AllPairs-cons (λ earlier later. is_last earlier ≡ false) s.note run.notes
          (last_alone s.note run.notes (is_last s.note) refl (λ (e : is_last s.note ≡ true). run.still (over_ended s.state t (last_ends image state t s many able.there went e))))
          run.ends;
      live = λ (alive : end_value last.calls t ≡ None) (running : by_call last.halt ≡ None).
          All-cons (λ shown. is_last shown ≡ false) s.note run.notes
          (false_from_ne_true (is_last s.note) (λ (e : is_last s.note ≡ true).
          ended_live image s.state schedule t many_next runs (last_ends image state t s many able.there went e) alive running))
          (run.live alive running);
      still = λ (over : Over state t). elim over [
        | inl e ↦ absurd (false≢true (sym (ap is_some able.live) ∙ e))
        | inr e ↦ absurd (false≢true (sym e ∙ able.running))
      ];
    }

-- ---- a step of another thread

pub other_run : (image : Layout) (state : State) (t u : ℕ) (schedule : List ℕ) (start : ℕ) → Ready image state t → Went image state t (step image state t) → (u ≡ t → ⊥)
    → retired_of (step image state t).state.core u ≡ retired_of state.core u
    → ThreadRun image (step image state t).state (events image (step image state t).state schedule) (final image (step image state t).state schedule).core u start
    → ThreadRun image state (events image state (t ∷ schedule)) (final image state (t ∷ schedule)).core u start
other_run image state t u schedule start able went ne same run =
    let s : Stepped = step image state t in
    let k : ℕ = retired_of state.core t in
    let es : List Event = events image s.state schedule in
    record {
      places = run.places;
      notes = run.notes;
      leads = run.leads;
      steps = omega (arith, run.steps, same);
      path = ap (λ (n : ℕ). path_of u (events_from u n run.notes)) (sym same) ∙ run.path ∙ sym (path_other u t k s.note es ne);
      calls = ap (λ (n : ℕ). records_of (events_from u n run.notes)) (sym same) ∙ run.calls ∙ sym (other_records u t k s.note (records_of es) ne);
      ends = run.ends;
      live = run.live;
      still = λ (over : Over state u). elim over [
        | inl e ↦ run.still (inl (ap (λ (c : Calls). is_some (end_value c u)) went.calls
            ∙ ended_stays state.core.calls t (first_argument (thread_at state.core t).local) s.note u e))
        | inr e ↦ absurd (false≢true (sym e ∙ able.running))
      ];
    }

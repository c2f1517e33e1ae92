-- How a run ends: by an exit, which its last record tells, by a fault, of a thread that has not ended, or without a halt.
use Rattle.std.specs.Prelude.{◌≡◌, ℕ, zero, suc, ◌<◌, Bool, true, false, ◌&&◌, List, [], ◌∷◌, length, Option, Some, None, is_none, is_some, refl}
use Rattle.std.specs.List.{list_all}
use Rattle.std.proofs.Common.{sym, ◌∙◌, ap, subst, arith, get_or}
use Rattle.std.proofs.lemmas.Bool.{false≢true}
use Rattle.elf_image.specs.Layout.{Layout}
use Rattle.odr_log.specs.declared.log.Call.TheVariants as call
use Rattle.odr_log.specs.declared.log.CallRec.{CallRec}
use Rattle.odr_log.specs.declared.log.Cause.{Cause}
use Rattle.rv_model.specs.declared.state.Thread.{Thread}
use Rattle.rv_model.specs.declared.state.Calls.{Calls}
use Rattle.rv_model.specs.declared.state.Core.{Core}
use Rattle.rv_model.specs.declared.state.Event.{Event}
use Rattle.rv_model.specs.declared.state.Halt.{Halt}
use Rattle.rv_model.specs.declared.state.Halt.TheVariants as halt
use Rattle.rv_model.specs.declared.state.Note.{Note}
use Rattle.rv_model.specs.declared.state.Note.TheVariants as note
use Rattle.rv_model.specs.declared.state.State.{State}
use Rattle.rv_model.specs.Thread.{no_thread}
use Rattle.rv_model.specs.Calls.{end_value}
use Rattle.rv_model.specs.CallsFit.{final_halt, EndFits}
use Rattle.rv_model.specs.Run.{Runs, final, events, record_in, records_of, cons_some, end_by}
use Rattle.rv_model.specs.Step.{instr_at, thread_at, halt_then, step}
use Rattle.rv_model.specs.Walk.{may_fault}
use Rattle.walk_orders.proofs.Runs.{halted_rest}
use Rattle.logged_walks.proofs.Steps.{pc_of, Many, Ready, ready, Fell, StepOf, Falls, Moves, step_of, many_on}

-- ---- the last record

-- the halt that a call made
abbrev pub by_call : Option Halt → Option Halt
by_call None = None
by_call (Some (halt.Exited thread code)) = Some (halt.Exited thread code)
by_call (Some (halt.Faulted thread fault)) = None

then_by_call : (t : ℕ) (n : Note) → by_call (halt_then t n) ≡ halt_then t n
then_by_call t (note.Called (call.Exit code)) = refl
then_by_call t (note.Called call.EndThread) = refl
then_by_call t (note.Called (call.Spawn entry child)) = refl
then_by_call t (note.Called (call.Join target ok)) = refl
then_by_call t (note.Called (call.Lock mutex ok)) = refl
then_by_call t (note.Called (call.Unlock mutex ok)) = refl
then_by_call t (note.Called (call.TryLock mutex got)) = refl
then_by_call t (note.Called (call.Write bytes)) = refl
then_by_call t (note.Called call.WriteBad) = refl
then_by_call t (note.Called (call.Read want bytes)) = refl
then_by_call t (note.Called call.ReadBad) = refl
then_by_call t (note.Called call.SelfId) = refl
then_by_call t (note.Called call.Yield) = refl
then_by_call t (note.Called (call.Unknown number)) = refl
then_by_call t note.Nothing = refl
then_by_call t (note.Branch taken) = refl
then_by_call t (note.Jump target) = refl
then_by_call t (note.Faulted fault) = refl

-- a step that goes on halts in no fault
never_faults : (t u : ℕ) (fault : Cause) (n : Note) → halt_then t n ≡ Some (halt.Faulted u fault) → ⊥
never_faults t u fault n e =
    absurd (let none : None ≡ Some (halt.Faulted u fault) = ap by_call (sym e) ∙ then_by_call t n ∙ e in cc)

abbrev pub event_at : ℕ → ℕ → Note → Event
event_at t at n = record { thread = t; at = at; note = n }

-- the halt after the last event
last_halt : (t at : ℕ) (n : Note) → final_halt (cons_some (record_in (event_at t at n)) []) ≡ halt_then t n
last_halt t at (note.Called made) = refl
last_halt t at note.Nothing = refl
last_halt t at (note.Branch taken) = refl
last_halt t at (note.Jump target) = refl
last_halt t at (note.Faulted fault) = refl

-- an event that halts nothing
goes_halt : (t at : ℕ) (n : Note) (later : List CallRec) → halt_then t n ≡ None → final_halt (cons_some (record_in (event_at t at n)) later) ≡ final_halt later
goes_halt t at (note.Called made) [] none = none
goes_halt t at (note.Called made) (r ∷ later) none = refl
goes_halt t at note.Nothing later none = refl
goes_halt t at (note.Branch taken) later none = refl
goes_halt t at (note.Jump target) later none = refl
goes_halt t at (note.Faulted fault) later none = refl

none_is : (h : Option Halt) → is_none h ≡ true → h ≡ None
none_is None e = refl
none_is (Some h) e = absurd (false≢true e)

-- the halt of a run that was a call is that of its last record
pub run_halt : (image : Layout) (state : State) (schedule : List ℕ) → Many state → is_none state.core.halt ≡ true → Runs image state schedule
    → final_halt (records_of (events image state schedule)) ≡ by_call (final image state schedule).core.halt
run_halt image state [] many running runs = ap by_call (sym (none_is state.core.halt running))
run_halt image state (t ∷ schedule) many running runs =
    by_step (step_of image state t many runs.0) (is_none next.core.halt) refl
    (λ (goes : is_none next.core.halt ≡ true). run_halt image next schedule (many_on image state t (step image state t) many (step_of image state t many runs.0)) goes runs.1) where
      next : State
      next = (step image state t).state

      at : ℕ
      at = (thread_at state.core t).retired

      head : Note → Option CallRec
      head n = record_in (event_at t at n)

      -- nothing runs after the step
      ended : (n : Note) → (step image state t).note ≡ n → is_none next.core.halt ≡ false → by_call next.core.halt ≡ halt_then t n
          → final_halt (records_of (events image state (t ∷ schedule))) ≡ by_call (final image state (t ∷ schedule)).core.halt
      ended n shows halted halts =
          subst (λ (s : List ℕ). final_halt (cons_some (head (step image state t).note) (records_of (events image next s))) ≡ by_call (final image next s).core.halt)
          (sym (halted_rest image next schedule runs.1 halted))
          (ap (λ (m : Note). final_halt (cons_some (head m) [])) shows ∙ last_halt t at n ∙ sym halts)

      by_step : StepOf image state t (step image state t) → (b : Bool) → is_none next.core.halt ≡ b
          → (is_none next.core.halt ≡ true → final_halt (records_of (events image next schedule)) ≡ by_call (final image next schedule).core.halt)
          → final_halt (records_of (events image state (t ∷ schedule))) ≡ by_call (final image state (t ∷ schedule)).core.halt
      by_step (Falls {fault = fault} fell) b is again = ended (note.Faulted fault) fell.note (ap is_none fell.halts) (ap by_call fell.halts)
      by_step (Moves went) false is again =
          ended (step image state t).note refl is (ap by_call went.halts ∙ then_by_call t (step image state t).note)
      by_step (Moves went) true is again =
          goes_halt t at (step image state t).note (records_of (events image next schedule)) (sym went.halts ∙ none_is next.core.halt is) ∙ again is

-- ---- a fault

-- a thread that has not ended stands at a place where it may fault
pub record FaultedAt (image : Layout) (core : Core) (t : ℕ) (fault : Cause) : Type 0 where
  pub there : t < length core.threads
  pub live : end_value core.calls t ≡ None
  pub fits : may_fault fault (pc_of core t) (instr_at image (pc_of core t)) ≡ true

same_fault : (t u : ℕ) (one other : Cause) → Some (halt.Faulted t one) ≡ Some (halt.Faulted u other) → (t ≡ u) × (one ≡ other)
same_fault t u one other e = (first, second) where
  first : t ≡ u
  first = cc

  second : one ≡ other
  second = cc

pub run_fault : (image : Layout) (state : State) (schedule : List ℕ) (t : ℕ) (fault : Cause) → Many state → is_none state.core.halt ≡ true → Runs image state schedule
    → (final image state schedule).core.halt ≡ Some (halt.Faulted t fault) → FaultedAt image (final image state schedule).core t fault
run_fault image state [] t fault many running runs e = absurd (false≢true (sym (ap is_none e) ∙ running))
run_fault image state (u ∷ schedule) t fault many running runs e =
    by_step (step_of image state u many runs.0) (is_none next.core.halt) refl
    (λ (goes : is_none next.core.halt ≡ true). run_fault image next schedule t fault (many_on image state u (step image state u) many (step_of image state u many runs.0)) goes runs.1 e) where
      next : State
      next = (step image state u).state

      here : is_none next.core.halt ≡ false → next.core.halt ≡ Some (halt.Faulted t fault)
      here halted = subst (λ (s : List ℕ). (final image next s).core.halt ≡ Some (halt.Faulted t fault)) (halted_rest image next schedule runs.1 halted) e

      fallen : (other : Cause) → Fell image state u other (step image state u) → FaultedAt image next.core u other
      fallen other fell =
          let able : Ready image state u = ready image state u runs.0 in
          record {
            there = omega (arith, able.there, ap (λ (ts : List Thread). length ts) fell.threads);
            live = ap (λ (c : Calls). end_value c u) fell.calls ∙ able.live;
            fits = subst (λ (ts : List Thread). may_fault other (get_or ts u no_thread).local.pc (instr_at image (get_or ts u no_thread).local.pc) ≡ true) (sym fell.threads) fell.fits;
          }

      by_step : StepOf image state u (step image state u) → (b : Bool) → is_none next.core.halt ≡ b
          → (is_none next.core.halt ≡ true → FaultedAt image (final image next schedule).core t fault) → FaultedAt image (final image next schedule).core t fault
      by_step (Falls {fault = other} fell) b is again =
          let halted : is_none next.core.halt ≡ false = ap is_none fell.halts in
          let same : (u ≡ t) × (other ≡ fault) = same_fault u t other fault (sym fell.halts ∙ here halted) in
          subst (λ (s : List ℕ). FaultedAt image (final image next s).core t fault) (sym (halted_rest image next schedule runs.1 halted))
          (subst (λ (c : Cause). FaultedAt image next.core t c) same.1 (subst (λ (v : ℕ). FaultedAt image next.core v other) same.0 (fallen other fell)))
      by_step (Moves went) true is again = again is
      by_step (Moves went) false is again = absurd (never_faults u t fault (step image state u).note (sym went.halts ∙ here is))

-- ---- the end

pub not_all : (ended : List (Option ℕ)) (t : ℕ) → t < length ended → get_or ended t None ≡ None → list_all is_some ended ≡ false
not_all [] t less none = absurd (omega (arith, less))
not_all (x ∷ xs) zero less none = ap (λ (o : Option ℕ). is_some o && list_all is_some xs) none
not_all (x ∷ xs) (suc t) less none = ap (λ (b : Bool). is_some x && b) (not_all xs t (omega (arith, less)) none) ∙ both (is_some x) where
  both : (b : Bool) → b && false ≡ false
  both true = refl
  both false = refl

pub ends_fit : (h : Option Halt) (all : Bool) → ((t : ℕ) (fault : Cause) → h ≡ Some (halt.Faulted t fault) → all ≡ false) → EndFits (by_call h) all (end_by h all)
ends_fit (Some (halt.Exited t code)) all live = refl
ends_fit (Some (halt.Faulted t fault)) true live = absurd (false≢true (sym (live t fault refl)))
ends_fit (Some (halt.Faulted t fault)) false live = tt
ends_fit None true live = refl
ends_fit None false live = refl

-- What a guided walk makes of a schedule: the threads, the shared state of the calls, and where its steps can stand.
use Rattle.std.specs.Prelude.{◌≡◌, ℕ, ◌<◌, Bool, true, false, List, [], ◌∷◌, None}
use Rattle.elf_image.specs.Layout.{Layout}
use Rattle.odr_log.specs.declared.log.Pos.{Pos}
use Rattle.odr_log.specs.declared.log.Call.TheVariants as call
use Rattle.rv_model.specs.declared.state.Thread.{Thread}
use Rattle.rv_model.specs.declared.state.Calls.{Calls}
use Rattle.rv_model.specs.declared.state.State.{State}
use Rattle.rv_model.specs.declared.state.Note.{Note}
use Rattle.rv_model.specs.declared.state.Note.TheVariants as note
use Rattle.rv_model.specs.Calls.{opening_calls, made, end_value, waits, reply_to, first_argument}
use Rattle.rv_model.specs.Noted.{asked_noted, reply_noted}
use Rattle.rv_model.specs.Step.{calls_then, step, is_enabled}
use Rattle.guided_walk.specs.Told.{Told, IsPlace, noted}
use Rattle.guided_walk.specs.Guided.{Visits, at, seen_before}
use Rattle.guided_walk.specs.Schedules.{count, next_of}
use Rattle.guided_walk.specs.Fits.{reserved}

-- The shared state of the calls after steps, of which the newest stands first; a thread ends with the value of its last
-- step.
abbrev pub calls_along : Told → (Pos → ℕ) → List ℕ → List Pos → Calls
calls_along told value tape [] = opening_calls tape
calls_along told value tape (p ∷ older) = calls_then (calls_along told value tape older) p.thread (value p) (noted told p)

-- a0 before a step
abbrev pub value_of : Visits → Pos → ℕ
value_of visits p = first_argument (at visits p).seen.local

-- a thread after steps
abbrev pub thread_along : Layout → Told → Visits → List Pos → ℕ → Thread
thread_along image told visits done thread = record {
  local = (seen_before image told visits thread (count thread done)).local;
  reservation = reserved image visits thread done;
  retired = count thread done;
}

-- an exit or a fault, after which nothing runs
abbrev pub halts : Note → Bool
halts (note.Called (call.Exit code)) = true
halts (note.Faulted fault) = true
halts other = false

-- A step can stand here: its thread was made and has not ended, it does not wait, and it is answered as it is recorded.
pub record SuitsAt (told : Told) (calls : Calls) (p : Pos) : Type 0 where
  pub place : IsPlace told p
  pub exists : p.thread < made calls
  pub live : end_value calls p.thread ≡ None
  pub ready : waits calls p.thread (asked_noted (noted told p)) ≡ false
  pub answered : reply_to calls p.thread (asked_noted (noted told p)) ≡ reply_noted (noted told p)

-- The values with which threads end are not recorded; here each is 0.
abbrev pub record_calls : Told → List ℕ → List Pos → Calls
record_calls told tape done = calls_along told (λ p. 0) tape done

-- each step of a list can stand where it does, and nothing stands after an exit or a fault
abbrev pub Suits : Told → List ℕ → List Pos → List Pos → Type 0
Suits told tape done [] = Unit {0}
Suits told tape done (p ∷ later) =
    SuitsAt told (record_calls told tape done) p × (halts (noted told p) ≡ true → later ≡ []) × Suits told tape (p ∷ done) later

-- A schedule runs from a state, after steps of which the newest stands first, and each step notes what is recorded of it.
abbrev pub Agrees : Layout → Told → State → List Pos → List ℕ → Type 0
Agrees image told state done [] = Unit {0}
Agrees image told state done (thread ∷ schedule) =
    (is_enabled image state thread ≡ true) × ((step image state thread).note ≡ noted told (next_of thread done))
    × Agrees image told (step image state thread).state (next_of thread done ∷ done) schedule

-- A run of a schedule that a guided walk fits, step by step.
use Rattle.std.specs.Prelude.{◌≡◌, ℕ, ◌<◌, List, ◌∷◌, ◌++◌, length}
use Rattle.elf_image.specs.Layout.{Layout}
use Rattle.odr_log.specs.declared.log.Log.{Log}
use Rattle.odr_log.specs.declared.log.Pos.{Pos}
use Rattle.odr_log.specs.Tape.{tape_of}
use Rattle.rv_model.specs.declared.state.Local.{Local}
use Rattle.rv_model.specs.declared.state.State.{State}
use Rattle.rv_model.specs.CallsFit.{CallsFit}
use Rattle.rv_model.specs.Noted.{note_in, writes_in}
use Rattle.rv_model.specs.Run.{final, logged}
use Rattle.rv_model.specs.Step.{opening, step, thread_at}
use Rattle.rv_model.specs.Walk.{IsWalk, Walk}
use Rattle.guided_walk.specs.Fits.{Fits}
use Rattle.guided_walk.specs.Guided.{Given, IsGuided, Visit, Visits, at, seen_before}
use Rattle.guided_walk.specs.Schedules.{times}
use Rattle.guided_walk.specs.Told.{Told, told}
use Rattle.guided_walk.specs.Woven.{Woven}
use Rattle.walk_facts.specs.Steps.{step_of}

-- a thread in a state
abbrev pub local_in : State → ℕ → Local
local_in state thread = (thread_at state.core thread).local

-- the state of a log's run after the first entries of its schedule
abbrev pub state_after : Layout → Log → List ℕ → State
state_after image log front = final image (opening image (tape_of log)) front

-- A step of a run is what a walk has there: the thread before it, what it writes, and what it shows.
pub record RunsAs (image : Layout) (visit : Visit) (state : State) (thread : ℕ) : Type 0 where
  pub there : thread < length state.core.threads
  pub seen : local_in state thread ≡ visit.seen.local
  pub writes : (step image state thread).state.writes ≡ writes_in visit.outcome ++ state.writes
  pub note : (step image state thread).note ≡ note_in visit.outcome

-- each entry of a schedule runs as the walk has the next step of its thread
abbrev pub EachRunsAs : Layout → Log → Visits → List ℕ → Type 0
EachRunsAs image log visits schedule =
    (front rest : List ℕ) (thread : ℕ) → schedule ≡ front ++ thread ∷ rest
    → RunsAs image (at visits (step_of thread (times thread front))) (state_after image log front) thread

-- a thread after its counted steps, by the walk
abbrev pub end_of_walk : Layout → Told → Log → Visits → ℕ → Local
end_of_walk image told log visits thread = (seen_before image told visits thread (logged log thread).steps).local

-- at the end each thread of the log stands as the walk has it after its counted steps
abbrev pub EndsAs : Layout → Log → Walk → Visits → List ℕ → Type 0
EndsAs image log walk visits schedule =
    (thread : ℕ) → thread < length log.threads
    → (thread < length (state_after image log schedule).core.threads)
    × (local_in (state_after image log schedule) thread ≡ end_of_walk image (told log walk) log visits thread)

abbrev pub RunLaw : Type 0
RunLaw = (image : Layout) (log : Log) (walk : Walk) (given : Given) (visits : Visits) (pairs : List (Pos × Pos)) (schedule : List ℕ)
    → IsWalk image log walk → CallsFit log → Woven log pairs schedule → IsGuided image (told log walk) given visits → Fits image given visits schedule
    → EachRunsAs image log visits schedule

abbrev pub EndLaw : Type 0
EndLaw = (image : Layout) (log : Log) (walk : Walk) (given : Given) (visits : Visits) (pairs : List (Pos × Pos)) (schedule : List ℕ)
    → log.version ≡ 1 → IsWalk image log walk → CallsFit log → Woven log pairs schedule
    → IsGuided image (told log walk) given visits → Fits image given visits schedule → EndsAs image log walk visits schedule

-- The first difference of a schedule from a log, place by place.
use Rattle.std.specs.Prelude.{◌≡◌, ℕ, ◌<◌, ◌⊎◌, true, List, length, take, slice_index}
use Rattle.elf_image.specs.Layout.{Layout}
use Rattle.odr_log.specs.declared.log.Log.{Log}
use Rattle.odr_log.specs.Tape.{tape_of}
use Rattle.rv_model.specs.declared.state.State.{State}
use Rattle.rv_model.specs.declared.state.Event.{Event}
use Rattle.rv_model.specs.Step.{opening, is_enabled}
use Rattle.rv_model.specs.Run.{final, events, event_of, agrees, log_of}

-- over the log's input, the state before a place of a schedule, and what happened before it
abbrev pub state_before : Layout → Log → List ℕ → ℕ → State
state_before image log schedule place = final image (opening image (tape_of log)) (take place schedule)

abbrev pub events_before : Layout → Log → List ℕ → ℕ → List Event
events_before image log schedule place = events image (opening image (tape_of log)) (take place schedule)

-- the thread at a place is enabled, and its step is the log's next
pub record FitsPlace (image : Layout) (log : Log) (schedule : List ℕ) (place : ℕ) : Type 0 where
  pub enabled : is_enabled image (state_before image log schedule place) (slice_index schedule place) ≡ true
  pub next : agrees log (events_before image log schedule place) (event_of image (state_before image log schedule place) (slice_index schedule place)) ≡ true

-- Every earlier place fits, and this one doesn't; or it is the schedule's length, and the log of the run is another.
pub record IsFirstDifference (image : Layout) (log : Log) (schedule : List ℕ) (place : ℕ) : Type 0 where
  pub earlier : (k : ℕ) → k < place → FitsPlace image log schedule k
  pub here :
      ((place < length schedule) × (FitsPlace image log schedule place → ⊥))
      ⊎ ((place ≡ length schedule) × (log_of (state_before image log schedule place) (events_before image log schedule place) ≡ log → ⊥))

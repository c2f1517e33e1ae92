-- What a step adds to the log so far.
use Rattle.std.specs.Prelude.{◌≡◌, ℕ, List, [], ◌∷◌, ◌++◌, length, nat_lt, slice_index_or, slice_set, option_to_list, IfSome, if◌then◌else◌}
use Rattle.odr_log.specs.declared.log.ThreadLog.{ThreadLog}
use Rattle.odr_log.specs.declared.log.CallRec.{CallRec}
use Rattle.odr_log.specs.Grammar.{IsItem}
use Rattle.guest_calls.specs.Notes.{FitsFields}
use Rattle.rv_model.specs.declared.state.State.{State}
use Rattle.rv_model.specs.declared.state.Note.{Note}
use Rattle.rv_model.specs.declared.state.Event.{Event}
use Rattle.rv_model.specs.Step.{thread_at, step}
use Rattle.rv_model.specs.Run.{item_of, record_in, nothing_logged}
use Rattle.guest_machine.specs.Whole.{Whole, StandsFor}

-- one more item, or none, in the path of a thread that has retired so many instructions
abbrev pub gone_on : ThreadLog → ℕ → Note → ThreadLog
gone_on log retired shown = record { steps = retired; path = log.path ++ option_to_list (item_of shown) }

-- the same among all threads
abbrev pub with_step : List ThreadLog → ℕ → ℕ → Note → List ThreadLog
with_step logs thread retired shown = slice_set logs thread (gone_on (slice_index_or logs thread nothing_logged) retired shown)

-- a new thread's log, where there are now more threads than logs
abbrev pub with_threads : ℕ → List ThreadLog → List ThreadLog
with_threads count logs = if nat_lt (length logs) count then logs ++ nothing_logged ∷ [] else logs

-- the logs of the threads after a step of one of them, where there are so many threads then
abbrev pub logs_after : List ThreadLog → ℕ → ℕ → ℕ → Note → List ThreadLog
logs_after logs thread retired count shown = with_threads count (with_step logs thread retired shown)

-- what a step shows fits the fields of a log
pub record FitsLog (event : Event) : Type 0 where
  pub items : IfSome (item_of event.note) IsItem
  pub calls : IfSome (record_in event) (λ made. FitsFields made.call)

-- One step of a thread: the machine goes on as the model does, and the logs get what the step shows.
pub record Advances (old : Whole) (logs : List ThreadLog) (calls : List CallRec) (thread : ℕ) (new : Whole) (then_logs : List ThreadLog) (then_calls : List CallRec) : Type 0 where
  pub shown : Note
  pub image : new.image ≡ old.image
  pub note : (before : State) → StandsFor old before → shown ≡ (step new.image before thread).note
  pub state : (before : State) → StandsFor old before → StandsFor new (step new.image before thread).state
  pub spelled : FitsLog (record { thread = thread; at = (thread_at old.core thread).retired; note = shown })
  pub logs_are : then_logs ≡ logs_after logs thread (thread_at new.core thread).retired (length new.core.threads) shown
  pub calls_are : then_calls ≡ calls ++ option_to_list (record_in (record { thread = thread; at = (thread_at old.core thread).retired; note = shown }))

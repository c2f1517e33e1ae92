-- How much of a log a replay has met, and its next step there.
use Rattle.std.specs.Prelude.{◌≡◌, ℕ, ◌+◌, ◌<◌, ◌≤◌, Bool, ◌&&◌, List, length, take, slice_get, slice_index, slice_set}
use Rattle.odr_log.specs.declared.log.Log.{Log}
use Rattle.odr_log.specs.declared.log.PathItem.TheVariants as item
use Rattle.odr_log.specs.declared.log.End.TheVariants as end
use Rattle.odr_log.specs.Same.{same_item, same_rec, same_end}
use Rattle.rv_model.specs.declared.state.Core.{Core}
use Rattle.rv_model.specs.declared.state.Event.{Event}
use Rattle.rv_model.specs.declared.state.Note.{Note}
use Rattle.rv_model.specs.declared.state.Note.TheVariants as note
use Rattle.rv_model.specs.Step.{thread_at}
use Rattle.rv_model.specs.Run.{path_of, records_of, end_of, logged, is_counted, option_test}
use Rattle.replay_check.specs.declared.met.Met.{Met}

-- so many items, the first ones of a list
pub record IsFront {A : Type 0} (done : List A) (count : ℕ) (whole : List A) : Type 0 where
  pub within : count ≤ length whole
  pub is : done ≡ take count whole

-- what happened is the front of each thread's path and of the calls that the log has
pub record HasMet (log : Log) (happened : List Event) (met : Met) : Type 0 where
  pub eight : length met.items ≡ 8
  pub items : (thread : ℕ) → IsFront (path_of thread happened) (slice_index met.items thread) (logged log thread).path
  pub calls : IsFront (records_of happened) met.calls log.calls

-- whether a step is the log's next where so much of it has been met
abbrev pub is_next : Log → Met → Event → Note → Bool
is_next log met event note.Nothing = is_counted log event
is_next log met event (note.Branch taken) = is_counted log event && option_test (same_item (item.Branch taken)) (slice_get (logged log event.thread).path (slice_index met.items event.thread))
is_next log met event (note.Jump target) = is_counted log event && option_test (same_item (item.Jump target)) (slice_get (logged log event.thread).path (slice_index met.items event.thread))
is_next log met event (note.Called call) = is_counted log event && option_test (same_rec (record { tid = event.thread; at = event.at; call = call })) (slice_get log.calls met.calls)
is_next log met event (note.Faulted fault) = same_end (end.Faulted event.thread fault) log.end

-- one item of a thread's path more
abbrev pub past_item : Met → ℕ → Met
past_item met thread = record met { items = slice_set met.items thread (slice_index met.items thread + 1) }

abbrev pub past_call : Met → Met
past_call met = record met { calls = met.calls + 1 }

-- what has been met after a step with this note
abbrev pub past : Met → ℕ → Note → Met
past met thread note.Nothing = met
past met thread (note.Branch taken) = past_item met thread
past met thread (note.Jump target) = past_item met thread
past met thread (note.Called call) = past_call met
past met thread (note.Faulted fault) = met

-- a thread has retired the log's steps and met all of its path
abbrev pub IsThreadMet : Log → Core → Met → ℕ → Type 0
IsThreadMet log core met thread = ((thread_at core thread).retired ≡ (logged log thread).steps) × (slice_index met.items thread ≡ length (logged log thread).path)

-- all of the log has been met by a run that is here
pub record IsAllMet (log : Log) (core : Core) (met : Met) : Type 0 where
  pub threads : length core.threads ≡ length log.threads
  pub each : (thread : ℕ) → thread < length core.threads → IsThreadMet log core met thread
  pub calls : met.calls ≡ length log.calls
  pub end : end_of core ≡ log.end

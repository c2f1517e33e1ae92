-- Runs of a schedule, the log of a run, and where a schedule first differs from a log.
use Rattle.std.specs.Prelude.{◌≡◌, ℕ, suc, ◌+◌, Bool, true, false, ◌&&◌, List, [], ◌∷◌, ◌++◌, length, nat_eq, nat_lt, slice_get, slice_index_or, Option, Some, None, option_map, is_some, if◌then◌else◌}
use Rattle.std.specs.List.{list_all}
use Rattle.elf_image.specs.Layout.{Layout}
use Rattle.odr_log.specs.declared.log.Log.{Log}
use Rattle.odr_log.specs.declared.log.ThreadLog.{ThreadLog}
use Rattle.odr_log.specs.declared.log.PathItem.{PathItem}
use Rattle.odr_log.specs.declared.log.PathItem.TheVariants as item
use Rattle.odr_log.specs.declared.log.CallRec.{CallRec}
use Rattle.odr_log.specs.declared.log.End.{End}
use Rattle.odr_log.specs.declared.log.End.TheVariants as end
use Rattle.odr_log.specs.Tape.{tape_of}
use Rattle.odr_log.specs.Same.{same_item, same_rec, same_end, same_log}
use Rattle.rv_model.specs.declared.state.Thread.{Thread}
use Rattle.rv_model.specs.declared.state.Core.{Core}
use Rattle.rv_model.specs.declared.state.Halt.{Halt}
use Rattle.rv_model.specs.declared.state.Halt.TheVariants as halt
use Rattle.rv_model.specs.declared.state.Note.{Note}
use Rattle.rv_model.specs.declared.state.Note.TheVariants as note
use Rattle.rv_model.specs.declared.state.Event.{Event}
use Rattle.rv_model.specs.declared.state.State.{State}
use Rattle.rv_model.specs.Step.{opening, step, is_enabled, thread_at}

-- the step of a thread, as an event of a run
abbrev pub event_of : Layout → State → ℕ → Event
event_of image state thread = record { thread = thread; at = (thread_at state.core thread).retired; note = (step image state thread).note }

-- A schedule is a list of threads. It runs from a state where each listed thread is enabled at its place.
abbrev pub Runs : Layout → State → List ℕ → Type 0
Runs image state [] = Unit {0}
Runs image state (thread ∷ schedule) = (is_enabled image state thread ≡ true) × Runs image (step image state thread).state schedule

-- the states of a run, one more than the schedule has entries
abbrev pub states : Layout → State → List ℕ → List State
states image state [] = state ∷ []
states image state (thread ∷ schedule) = state ∷ states image (step image state thread).state schedule

-- the last state of a run, and its events
abbrev pub final : Layout → State → List ℕ → State
final image state [] = state
final image state (thread ∷ schedule) = final image (step image state thread).state schedule

abbrev pub events : Layout → State → List ℕ → List Event
events image state [] = []
events image state (thread ∷ schedule) = event_of image state thread ∷ events image (step image state thread).state schedule

-- a branch's or a JALR's item in the path of its thread
abbrev pub item_of : Note → Option PathItem
item_of note.Nothing = None
item_of (note.Branch taken) = Some (item.Branch taken)
item_of (note.Jump target) = Some (item.Jump target)
item_of (note.Called call) = None
item_of (note.Faulted fault) = None

abbrev pub cons_some : {A : Type 0} → Option A → List A → List A
cons_some None xs = xs
cons_some (Some x) xs = x ∷ xs

-- the branches and jumps of a thread in order
abbrev pub path_of : ℕ → List Event → List PathItem
path_of thread [] = []
path_of thread (event ∷ later) = if nat_eq event.thread thread then cons_some (item_of event.note) (path_of thread later) else path_of thread later

abbrev pub record_in : Event → Option CallRec
record_in event = called event.thread event.at event.note where
  called : ℕ → ℕ → Note → Option CallRec
  called thread at (note.Called call) = Some (record { tid = thread; at = at; call = call })
  called thread at other = None

abbrev pub is_call : Note → Bool
is_call (note.Called call) = true
is_call other = false

-- the calls of all threads in order
abbrev pub records_of : List Event → List CallRec
records_of [] = []
records_of (event ∷ later) = cons_some (record_in event) (records_of later)

-- what each thread did, from its number on
abbrev pub thread_logs : ℕ → List Thread → List Event → List ThreadLog
thread_logs number [] happened = []
thread_logs number (thread ∷ threads) happened = record { steps = thread.retired; path = path_of number happened } ∷ thread_logs (number + 1) threads happened

abbrev pub end_by : Option Halt → Bool → End
end_by (Some (halt.Exited thread code)) all_ended = end.Exited thread code
end_by (Some (halt.Faulted thread fault)) all_ended = end.Faulted thread fault
end_by None true = end.AllDone
end_by None false = end.Cut

abbrev pub end_of : Core → End
end_of core = end_by core.halt (list_all is_some core.calls.ended)

-- the log of a run with these events that is in this state
unfoldable pub log_of : State → List Event → Log
log_of state happened = record {
  version = 1;
  threads = thread_logs 0 state.core.threads happened;
  calls = records_of happened;
  end = end_of state.core;
}

-- The schedule runs over the log's own input, and the log of its run is the log.
pub record HasLog (image : Layout) (log : Log) (schedule : List ℕ) : Type 0 where
  pub runs : Runs image (opening image (tape_of log)) schedule
  pub log_is : log_of (final image (opening image (tape_of log)) schedule) (events image (opening image (tape_of log)) schedule) ≡ log

-- some schedule has the log
abbrev pub Genuine : Layout → Log → Type 0
Genuine image log = (schedule : List ℕ) × HasLog image log schedule

-- a thread that did nothing
abbrev pub nothing_logged : ThreadLog
nothing_logged = record { steps = 0; path = [] }

-- what the log says of a thread, nothing for one that it has not
abbrev pub logged : Log → ℕ → ThreadLog
logged log thread = slice_index_or log.threads thread nothing_logged

abbrev pub option_test : {A : Type 0} → (A → Bool) → Option A → Bool
option_test test None = false
option_test test (Some x) = test x

-- a step that the log counts
abbrev pub is_counted : Log → Event → Bool
is_counted log event = nat_lt event.thread (length log.threads) && nat_lt event.at (logged log event.thread).steps

-- the next item of a thread's path, and the next call record, after what happened
abbrev pub next_item : Log → List Event → ℕ → Option PathItem
next_item log happened thread = slice_get (logged log thread).path (length (path_of thread happened))

abbrev pub next_record : Log → List Event → Option CallRec
next_record log happened = slice_get log.calls (length (records_of happened))

-- Whether a step is the log's next: it is counted, and its branch, jump or call is the next one there. A fault is where
-- the log ends in it, whatever the counts.
abbrev pub agrees_by : Log → List Event → Event → Note → Bool
agrees_by log happened event note.Nothing = is_counted log event
agrees_by log happened event (note.Branch taken) = is_counted log event && option_test (same_item (item.Branch taken)) (next_item log happened event.thread)
agrees_by log happened event (note.Jump target) = is_counted log event && option_test (same_item (item.Jump target)) (next_item log happened event.thread)
agrees_by log happened event (note.Called call) = is_counted log event && option_test (same_rec (record { tid = event.thread; at = event.at; call = call })) (next_record log happened)
agrees_by log happened event (note.Faulted fault) = same_end (end.Faulted event.thread fault) log.end

abbrev pub agrees : Log → List Event → Event → Bool
agrees log happened event = agrees_by log happened event event.note

-- Whether a thread is enabled and its step is the log's next.
abbrev pub fits : Layout → Log → State → List Event → ℕ → Bool
fits image log state happened thread = is_enabled image state thread && agrees log happened (event_of image state thread)

-- From a state on, after what happened: the first place whose thread is not enabled or whose step is not the log's
-- next, else the schedule's length where the run's log is not the log, else none.
abbrev pub differs_from : Layout → Log → State → List Event → List ℕ → Option ℕ
differs_from image log state happened [] = if same_log (log_of state happened) log then None else Some 0
differs_from image log state happened (thread ∷ schedule) =
    if fits image log state happened thread
    then option_map suc (differs_from image log (step image state thread).state (happened ++ event_of image state thread ∷ []) schedule)
    else Some 0

unfoldable pub first_diff : Layout → Log → List ℕ → Option ℕ
first_diff image log schedule = differs_from image log (opening image (tape_of log)) [] schedule

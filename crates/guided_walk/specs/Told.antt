-- The log as its walk spells it out: what is recorded of each step of each thread.
use Rattle.std.specs.Prelude.{ℕ, ◌<◌, List, [], ◌∷◌, ◌++◌, length, nat_eq, find, slice_index_or, Bool, false, Option, option_map, if◌then◌else◌}
use Rattle.odr_log.specs.declared.log.Call.{Call}
use Rattle.odr_log.specs.declared.log.Call.TheVariants as call
use Rattle.odr_log.specs.declared.log.CallRec.{CallRec}
use Rattle.odr_log.specs.declared.log.End.{End}
use Rattle.odr_log.specs.declared.log.End.TheVariants as end
use Rattle.odr_log.specs.declared.log.Log.{Log}
use Rattle.odr_log.specs.declared.log.Pos.{Pos}
use Rattle.rv_model.specs.declared.state.Note.{Note}
use Rattle.rv_model.specs.declared.state.Note.TheVariants as note
use Rattle.rv_model.specs.Walk.{Walk, notes_of, maker_of}

-- Of each thread: how many steps it has, where a fault counts as a last one; the note of each; the call by which another
-- thread made it; and the call by which it ended.
pub record Told : Type 0 where
  pub steps : ℕ → ℕ
  pub note : ℕ → ℕ → Note
  pub maker : ℕ → Option Pos
  pub ender : ℕ → Option Pos

-- the note of a thread's fault, where the log ends in one
abbrev pub last_fault : End → ℕ → List Note
last_fault (end.Faulted faulting fault) thread = if nat_eq faulting thread then note.Faulted fault ∷ [] else []
last_fault (end.Exited exiting code) thread = []
last_fault end.AllDone thread = []
last_fault end.Cut thread = []

-- the notes of a thread's counted steps, and of its fault
abbrev pub shown_by : Log → Walk → ℕ → List Note
shown_by log walk thread = notes_of walk thread ++ last_fault log.end thread

-- a call that ends its caller, where the caller is this thread
abbrev pub ends : ℕ → CallRec → Bool
ends thread r = by_call r.call where
  by_call : Call → Bool
  by_call call.EndThread = nat_eq r.tid thread
  by_call other = false

abbrev pub place_of : CallRec → Pos
place_of r = record { thread = r.tid; step = r.at }

abbrev pub told : Log → Walk → Told
told log walk = record {
  steps = λ thread. length (shown_by log walk thread);
  note = λ thread step. slice_index_or (shown_by log walk thread) step note.Nothing;
  maker = λ thread. option_map place_of (maker_of log thread);
  ender = λ thread. option_map place_of (find (ends thread) log.calls);
}

-- a step of the walk, or its fault
abbrev pub IsPlace : Told → Pos → Type 0
IsPlace told p = p.step < told.steps p.thread

abbrev pub noted : Told → Pos → Note
noted told p = told.note p.thread p.step

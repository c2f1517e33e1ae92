-- The state of the guest and its one atomic step: one instruction of one thread, with all its memory bytes and its
-- whole guest call. The memory is a list of writes, the newest first.
use Rattle.std.specs.Prelude.{ℕ, ◌+◌, Bool, not, ◌&&◌, List, [], ◌∷◌, ◌++◌, length, map, nat_lt, slice_index_or, slice_set, Option, Some, None, is_none, Result, Ok, Err}
use Rattle.std.specs.List.{filter, range_with_len}
use Rattle.elf_image.specs.declared.write.Write.{Write}
use Rattle.elf_image.specs.Layout.{Layout, fetch_of}
use Rattle.elf_image.specs.Memory.{Cells, opening_cells, cells_after, load_bytes, all_writable}
use Rattle.rv32_decode.specs.declared.instr.Instr.{Instr}
use Rattle.rv32_decode.specs.Table.{decode_of}
use Rattle.odr_log.specs.declared.log.Cause.{Cause}
use Rattle.odr_log.specs.declared.log.Cause.TheVariants as cause
use Rattle.odr_log.specs.declared.log.Call.TheVariants as call
use Rattle.rv_model.specs.declared.state.Local.{Local}
use Rattle.rv_model.specs.declared.state.Thread.{Thread}
use Rattle.rv_model.specs.declared.state.Calls.{Calls}
use Rattle.rv_model.specs.declared.state.Core.{Core}
use Rattle.rv_model.specs.declared.state.Halt.{Halt}
use Rattle.rv_model.specs.declared.state.Halt.TheVariants as halt
use Rattle.rv_model.specs.declared.state.State.{State}
use Rattle.rv_model.specs.declared.state.Stepped.{Stepped}
use Rattle.rv_model.specs.declared.state.Note.{Note}
use Rattle.rv_model.specs.declared.state.Note.TheVariants as note
use Rattle.rv_model.specs.Thread.{first_local, spawned_local, fresh, no_thread, losing, register}
use Rattle.rv_model.specs.declared.hearing.Access.{Access}
use Rattle.rv_model.specs.declared.hearing.Reach.{Reach}
use Rattle.rv_model.specs.declared.hearing.Heard.{Heard}
use Rattle.rv_model.specs.declared.hearing.Outcome.{Outcome}
use Rattle.rv_model.specs.declared.hearing.Outcome.TheVariants.{Faults, Goes}
use Rattle.rv_model.specs.Calls.{opening_calls, end_value, waits, reply_to, join_value, calls_after, first_argument, second_argument}
use Rattle.rv_model.specs.Instruction.{act_at, access_at, asked_at, conditional_at, wins, reserving_at}

-- Thread 0 alone, at the entry; every mutex is free, the tape is whole, nothing was written.
abbrev pub opening_core : Layout → List ℕ → Core
opening_core image tape = record {
  threads = fresh (first_local image.entry) ∷ [];
  calls = opening_calls tape;
  halt = None;
}

abbrev pub opening : Layout → List ℕ → State
opening image tape = record { core = opening_core image tape; writes = [] }

abbrev pub memory_of : Layout → State → Cells
memory_of image state = cells_after (opening_cells image) state.writes

abbrev pub decoded : Option Instr → Result Instr Cause
decoded None = Err cause.Illegal
decoded (Some instruction) = Ok instruction

abbrev pub fetched : Option ℕ → Result Instr Cause
fetched None = Err cause.FetchFault
fetched (Some word) = decoded (decode_of word)

-- the instruction at an address, or why there is none; code is in no writable region, so it is the image's
unfoldable pub instr_at : Layout → ℕ → Result Instr Cause
instr_at image pc = fetched (fetch_of image pc)

abbrev pub reach_of : Cells → Access → Reach
reach_of cells access = record { bytes = load_bytes cells access.address access.count; writable = all_writable cells access.address access.count }

abbrev pub thread_at : Core → ℕ → Thread
thread_at core thread = slice_index_or core.threads thread no_thread

-- the instruction that a thread is at, and what it hears in a memory
abbrev pub next_instr : Layout → Core → ℕ → Result Instr Cause
next_instr image core thread = instr_at image (thread_at core thread).local.pc

abbrev pub reach_at : Layout → Cells → Core → ℕ → Reach
reach_at image cells core thread = reach_of cells (access_at (thread_at core thread).local (next_instr image core thread))

abbrev pub heard_at : Layout → Cells → Core → ℕ → Heard
heard_at image cells core thread =
    let local : Local = (thread_at core thread).local in
    let reach : Reach = reach_at image cells core thread in
    record {
      thread = thread;
      reach = reach;
      won = wins (conditional_at local (next_instr image core thread)) (thread_at core thread).reservation;
      reply = reply_to core.calls thread (asked_at local (next_instr image core thread) reach);
      joined = join_value core.calls (asked_at local (next_instr image core thread) reach);
    }

-- a thread that exists, has not ended and does not wait, in a machine that has not halted
unfoldable pub enabled : Layout → Cells → Core → ℕ → Bool
enabled image cells core thread =
    nat_lt thread (length core.threads) && is_none (end_value core.calls thread) && is_none core.halt
    && not (waits core.calls thread (asked_at (thread_at core thread).local (next_instr image core thread) (reach_at image cells core thread)))

-- the thread that a call makes, with the caller's gp (x3) and second argument
abbrev pub child_of : Local → Note → List Thread
child_of local (note.Called (call.Spawn entry (Some child))) = fresh (spawned_local child entry (register local 3) (second_argument local)) ∷ []
child_of local other = []

abbrev pub calls_then : Calls → ℕ → ℕ → Note → Calls
calls_then calls thread a0 (note.Called made) = calls_after calls thread a0 made
calls_then calls thread a0 note.Nothing = calls
calls_then calls thread a0 (note.Branch taken) = calls
calls_then calls thread a0 (note.Jump target) = calls
calls_then calls thread a0 (note.Faulted fault) = calls

abbrev pub halt_then : ℕ → Note → Option Halt
halt_then thread (note.Called (call.Exit code)) = Some (halt.Exited thread code)
halt_then thread other = None

-- what a step leaves: the machine, the step's own writes, its note
pub record Effect : Type 0 where
  pub core : Core
  pub writes : List Write
  pub note : Note

abbrev pub faulted : Core → ℕ → Cause → Effect
faulted core thread fault = record { core = record core { halt = Some (halt.Faulted thread fault) }; writes = []; note = note.Faulted fault }

-- Every thread loses a reservation of a word that was written, the stepping thread goes on with its own.
abbrev pub gone : Core → ℕ → Option ℕ → Local → List Write → Note → Effect
gone core thread reservation local writes shown =
    let before : Thread = thread_at core thread in
    let after : Thread = record { local = local; reservation = reservation; retired = before.retired + 1 } in
    record {
      core = record {
        threads = slice_set (map (losing writes) core.threads) thread after ++ child_of before.local shown;
        calls = calls_then core.calls thread (first_argument before.local) shown;
        halt = halt_then thread shown;
      };
      writes = writes;
      note = shown;
    }

abbrev pub applied : Core → ℕ → Option ℕ → Outcome → Effect
applied core thread reservation (Faults fault) = faulted core thread fault
applied core thread reservation (Goes local writes shown) = gone core thread reservation local writes shown

-- the step of an enabled thread in a memory
unfoldable pub effect : Layout → Cells → Core → ℕ → Effect
effect image cells core thread =
    let before : Thread = thread_at core thread in
    applied core thread (reserving_at before.local (next_instr image core thread) before.reservation)
    (act_at before.local (next_instr image core thread) (heard_at image cells core thread))

-- the state after a step, with its writes before the older ones
abbrev pub after_effect : State → Effect → Stepped
after_effect state done = record { state = record { core = done.core; writes = done.writes ++ state.writes }; note = done.note }

-- the step of an enabled thread: the state after it, and its note
unfoldable pub step : Layout → State → ℕ → Stepped
step image state thread = after_effect state (effect image (memory_of image state) state.core thread)

unfoldable pub is_enabled : Layout → State → ℕ → Bool
is_enabled image state thread = enabled image (memory_of image state) state.core thread

-- the threads of a state that are enabled, in rising order
abbrev pub enabled_in : Layout → State → List ℕ
enabled_in image state = filter (is_enabled image state) (range_with_len 0 (length state.core.threads))

-- What a thread waits for, and the threads that may step.
use Rattle.std.specs.Prelude.{ℕ, List, length, Option, Some, None, if◌then◌else◌}
use Rattle.std.specs.List.{filter, range_with_len}
use Rattle.elf_image.specs.Layout.{Layout}
use Rattle.elf_image.specs.Memory.{Cells}
use Rattle.rv_model.specs.declared.state.Calls.{Calls}
use Rattle.rv_model.specs.declared.state.Core.{Core}
use Rattle.rv_model.specs.declared.hearing.Asked.{Asked}
use Rattle.rv_model.specs.declared.hearing.Asked.TheVariants as asked
use Rattle.rv_model.specs.Calls.{end_value, waits}
use Rattle.rv_model.specs.Instruction.{asked_at}
use Rattle.rv_model.specs.Step.{thread_at, next_instr, reach_at}
use Rattle.guest_machine.specs.declared.wait.Wait.{Wait}
use Rattle.guest_machine.specs.declared.wait.Wait.TheVariants as wait
use Rattle.guest_machine.specs.Whole.{Whole, may_step}

-- the mutex that a lock is about, or the thread that a join is about
abbrev pub awaited : Option Asked → Wait
awaited (Some (asked.Join target)) = wait.Thread target
awaited (Some (asked.Lock mutex)) = wait.Mutex mutex
awaited other = wait.Ready

-- what a thread that asks this waits for
abbrev pub held_up : Calls → ℕ → Option Asked → Wait
held_up calls thread it = if waits calls thread it then awaited it else wait.Ready

abbrev pub ended_or : Option ℕ → Wait → Wait
ended_or None other = other
ended_or (Some value) other = wait.Ended value

-- what a thread waits for, whatever the halt
abbrev pub wait_at : Layout → Cells → Core → ℕ → Wait
wait_at image cells core thread =
    ended_or (end_value core.calls thread)
    (held_up core.calls thread (asked_at (thread_at core thread).local (next_instr image core thread) (reach_at image cells core thread)))

-- the threads that may step, in rising order
abbrev pub enabled_threads : Whole → List ℕ
enabled_threads whole = filter (may_step whole) (range_with_len 0 (length whole.core.threads))

-- A call by its arguments alone, in a memory, in the terms of the model's table of calls.
use Rattle.std.specs.Prelude.{◌≡◌, ℕ, ◌<◌, Bool, true, ◌&&◌, ◌||◌, length, nat_eq, nat_lt, Option, Some, is_none, if◌then◌else◌}
use Rattle.elf_image.specs.Memory.{Cells, all_writable}
use Rattle.odr_log.specs.declared.log.Call.{Call}
use Rattle.odr_log.specs.declared.log.Call.TheVariants as call
use Rattle.rv_model.specs.declared.state.Local.{Local}
use Rattle.rv_model.specs.declared.state.Calls.{Calls}
use Rattle.rv_model.specs.declared.hearing.Access.{Access}
use Rattle.rv_model.specs.declared.hearing.Reach.{Reach}
use Rattle.rv_model.specs.declared.hearing.Kind.{Kind}
use Rattle.rv_model.specs.declared.hearing.Asked.{Asked}
use Rattle.rv_model.specs.Calls.{number_of_call, first_argument, second_argument, fits_buffer, kind_by, asked_of, reply_to, record_of, made, end_value}
use Rattle.rv_model.specs.Instruction.{no_access}
use Rattle.rv_model.specs.Step.{reach_of}
use Rattle.guest_calls.specs.declared.call.CallArgs.{CallArgs}
use Rattle.guest_calls.specs.declared.call.After.{After}
use Rattle.guest_calls.specs.declared.call.After.TheVariants as after

-- the arguments of the call that a thread makes, from its registers
abbrev pub args_of : Local → CallArgs
args_of local = record { number = number_of_call local; a0 = first_argument local; a1 = second_argument local }

-- the buffer of a write or a read call that is not too long
abbrev pub buffer_in : CallArgs → Access
buffer_in args = if (nat_eq args.number 8 || nat_eq args.number 9) && fits_buffer args.a1 then record { address = args.a0; count = args.a1 } else no_access

-- the call, with what its buffer meets
abbrev pub kind_met : CallArgs → Reach → Kind
kind_met args reach = kind_by args.number args.a0 args.a1 reach

abbrev pub kind_in : Cells → CallArgs → Kind
kind_in cells args = kind_met args (reach_of cells (buffer_in args))

abbrev pub asked_in_memory : Cells → CallArgs → Option Asked
asked_in_memory cells args = asked_of (kind_in cells args)

-- the record of the call that a thread makes
abbrev pub note_for : Calls → Cells → ℕ → CallArgs → Call
note_for calls cells thread args = record_of (kind_in cells args) (reply_to calls thread (asked_in_memory cells args))

-- a thread that was made and has not ended
abbrev pub is_live : Calls → ℕ → Bool
is_live calls thread = nat_lt thread (made calls) && is_none (end_value calls thread)

-- what the caller's thread, or the machine, does after a call with this second argument
abbrev pub after_of : ℕ → Call → After
after_of a1 (call.Exit code) = after.Halted
after_of a1 call.EndThread = after.Ended
after_of a1 (call.Spawn entry (Some child)) = after.Spawned child entry a1
after_of a1 other = after.Goes

-- the bytes that a read call got may be written into its buffer
abbrev pub HasBuffer : Cells → ℕ → Call → Type 0
HasBuffer cells address (call.Read want bytes) = all_writable cells address (length bytes) ≡ true
HasBuffer cells address other = Unit {0}

-- one more thread may be made where the call makes one
abbrev pub HasRoom : Calls → Call → Type 0
HasRoom calls (call.Spawn entry (Some child)) = made calls < 8
HasRoom calls other = Unit {0}

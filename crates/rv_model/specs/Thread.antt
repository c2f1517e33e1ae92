-- A thread's own part, and what becomes of reservations.
use Rattle.std.specs.Prelude.{ℕ, ◌+◌, ◌*◌, ◌/◌, ◌%◌, ◌^◌, Bool, List, [], replicate, nat_eq, slice_index, slice_set, Option, Some, None, if◌then◌else◌}
use Rattle.std.specs.List.{list_any}
use Rattle.elf_image.specs.declared.write.Write.{Write}
use Rattle.rv_model.specs.declared.state.Local.{Local}
use Rattle.rv_model.specs.declared.state.Thread.{Thread}

-- a stack's top is its first address plus 16,384
abbrev pub stack_top : ℕ → ℕ
stack_top thread = 0x70000000 + thread * 0x10000 + 16384

-- x0 is 0, whatever the list holds in its place, and writes to it are dropped
abbrev pub register : Local → ℕ → ℕ
register local number = if nat_eq number 0 then 0 else slice_index local.registers number

abbrev pub with_register : Local → ℕ → ℕ → Local
with_register local number value = if nat_eq number 0 then local else record local { registers = slice_set local.registers number value }

-- the address of the next word
abbrev pub word_after : ℕ → ℕ
word_after pc = (pc + 4) % 2 ^ 32

abbrev pub next_pc : Local → ℕ
next_pc local = word_after local.pc

-- after an instruction that goes on at the next word
abbrev pub onward : Local → Local
onward local = record local { pc = next_pc local }

abbrev pub gone_to : Local → ℕ → Local
gone_to local target = record local { pc = target }

abbrev pub zero_registers : List ℕ
zero_registers = replicate 32 0

-- thread 0 in the beginning: sp (x2) at its stack's top, all else 0
abbrev pub first_local : ℕ → Local
first_local entry = record { pc = entry; registers = slice_set zero_registers 2 (stack_top 0) }

-- a spawned thread: sp at its stack's top, gp (x3) its spawner's, a0 (x10) its argument, all else 0
abbrev pub spawned_local : ℕ → ℕ → ℕ → ℕ → Local
spawned_local thread entry gp argument = record { pc = entry; registers = slice_set (slice_set (slice_set zero_registers 2 (stack_top thread)) 3 gp) 10 argument }

-- a thread that retired nothing and reserved nothing
abbrev pub fresh : Local → Thread
fresh local = record { local = local; reservation = None; retired = 0 }

abbrev pub no_thread : Thread
no_thread = record { local = record { pc = 0; registers = [] }; reservation = None; retired = 0 }

-- a write to a byte of the aligned word at an address
abbrev pub touches : List Write → ℕ → Bool
touches writes reserved = list_any (λ write. nat_eq (write.address / 4) (reserved / 4)) writes

-- a reservation of another thread, which ends where its word is written
abbrev pub surviving : List Write → Option ℕ → Option ℕ
surviving writes None = None
surviving writes (Some reserved) = if touches writes reserved then None else Some reserved

abbrev pub losing : List Write → Thread → Thread
losing writes thread = record thread { reservation = surviving writes thread.reservation }

use Rattle.std.proofs.Common.{◌≡◌, ◌-◌, ◌++◌, take, length}
use Rattle.elf_image.specs.Memory.{bytes_from}
use Rattle.guest_mem.specs.Blocks.{cells_of}
use Rattle.guest_mem.proofs.accesses.load_each.Given as goal

-- the bytes so far, and those that are left to read
abbrev pub invariant-loop-slot : goal.invariant-loop-slot
invariant-loop-slot l =
    take l.slot-index l.into ++ bytes_from (cells_of l.blocks) l.at (length l.initial.into - l.slot-index) ≡ bytes_from (cells_of l.blocks) l.address (length l.initial.into)

use Rattle.std.proofs.Common.{◌≡◌, ◌-◌, ◌++◌}
use Rattle.elf_image.specs.Memory.{opening_cells, cells_after, bytes_from}
use Rattle.plain_machine.proofs.memory.bytes_from.Given as goal

abbrev pub invariant-loop-done : goal.invariant-loop-done
invariant-loop-done l =
    l.bytes ++ bytes_from (cells_after (opening_cells l.image) l.writes) l.at (l.count - l._done)
    ≡ bytes_from (cells_after (opening_cells l.image) l.writes) l.address l.count

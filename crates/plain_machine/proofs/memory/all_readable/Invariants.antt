use Rattle.std.proofs.Common.{◌≡◌, ◌-◌}
use Rattle.elf_image.specs.Memory.{opening_cells, cells_after, all_readable}
use Rattle.plain_machine.proofs.memory.all_readable.Given as goal

abbrev pub invariant-loop-done : goal.invariant-loop-done
invariant-loop-done l =
    all_readable (cells_after (opening_cells l.image) l.writes) l.at (l.count - l._done)
    ≡ all_readable (cells_after (opening_cells l.image) l.writes) l.address l.count

use Rattle.std.proofs.Common.{◌≡◌, ◌-◌}
use Rattle.elf_image.specs.Memory.{opening_cells}
use Rattle.access_terms.specs.Rights.{all_allow}
use Rattle.access_terms.proofs.rights.all_allowed.Given as goal

abbrev pub invariant-loop-done : goal.invariant-loop-done
invariant-loop-done l =
    all_allow l.right (opening_cells l.image) l.at (l.count - l._done) ≡ all_allow l.right (opening_cells l.image) l.address l.count

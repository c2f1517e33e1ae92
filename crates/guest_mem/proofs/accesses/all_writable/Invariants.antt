use Rattle.std.proofs.Common.{◌≡◌}
use Rattle.elf_image.specs.Memory.{all_writable}
use Rattle.guest_mem.specs.Blocks.{cells_of}
use Rattle.guest_mem.specs.Runs.{AreWritable}
use Rattle.guest_mem.proofs.accesses.all_writable.Given as goal

-- the bytes before this address may be written, and a run of bytes begins here
abbrev pub invariant-loop-run : goal.invariant-loop-run
invariant-loop-run l = record {
  rest : all_writable (cells_of l.blocks) l.at l.left ≡ all_writable (cells_of l.blocks) l.address l.count;
  here : AreWritable (cells_of l.blocks) l.at l.run;
}

abbrev pub decreases-loop-run : goal.decreases-loop-run
decreases-loop-run l = l.left

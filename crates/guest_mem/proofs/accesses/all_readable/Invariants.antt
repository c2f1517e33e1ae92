use Rattle.std.proofs.Common.{◌≡◌, ℕ, List, length}
use Rattle.elf_image.specs.Memory.{all_readable}
use Rattle.guest_mem.specs.Blocks.{cells_of}
use Rattle.guest_mem.specs.Runs.{AreReadable}
use Rattle.guest_mem.proofs.accesses.all_readable.Given as goal

-- the bytes before this address may be read, and a run of bytes begins here
abbrev pub invariant-loop-run : goal.invariant-loop-run
invariant-loop-run l = record {
  rest : all_readable (cells_of l.blocks) l.at l.left ≡ all_readable (cells_of l.blocks) l.address l.count;
  bytes : List ℕ;
  here : AreReadable (cells_of l.blocks) l.at bytes;
  size : length bytes ≡ l.run;
}

abbrev pub decreases-loop-run : goal.decreases-loop-run
decreases-loop-run l = l.left

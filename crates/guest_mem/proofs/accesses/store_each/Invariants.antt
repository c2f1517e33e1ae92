use Rattle.std.proofs.Common.{◌≡◌, ◌-◌, true, List, [], drop, length}
use Rattle.std.specs.List.{AllPairs}
use Rattle.elf_image.specs.declared.write.Write.{Write}
use Rattle.elf_image.specs.Memory.{all_writable, writes_of, Stands}
use Rattle.guest_mem.specs.Blocks.{cells_of, AreApart}
use Rattle.guest_mem.proofs.accesses.store_each.Given as goal

-- the writes so far, to which those of the bytes that are left come
abbrev pub invariant-loop-byte : goal.invariant-loop-byte
invariant-loop-byte l = record {
  apart : AllPairs AreApart l.blocks;
  writes : List Write;
  stands : Stands (cells_of l.initial.blocks) writes (cells_of l.blocks);
  rest : writes_of l.at (drop l.byte-index l.bytes) writes ≡ writes_of l.address l.bytes [];
  writable : all_writable (cells_of l.initial.blocks) l.at (length l.bytes - l.byte-index) ≡ true;
}

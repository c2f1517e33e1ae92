use Rattle.std.proofs.Common.{◌≡◌, drop}
use Rattle.elf_image.specs.Checks.{overlap}
use Rattle.elf_image.proofs.segments.overlap.Given as goal

-- nothing so far shares an address with a later segment
abbrev pub invariant-loop-index : goal.invariant-loop-index
invariant-loop-index l = overlap (drop l.index l.loads) ≡ overlap l.loads

use Rattle.elf_image.specs.Memory.{opening_cells, cells_after}
use Rattle.plain_walk.specs.Data.{byte_of}
use Rattle.plain_walk.proofs.FitLemmas.{BytesSoFar}
use Rattle.plain_walk.proofs.fit.bytes_fit.Given as goal

abbrev pub invariant-loop-i : goal.invariant-loop-i
invariant-loop-i l = BytesSoFar (byte_of l.bytes) (cells_after (opening_cells l.image) l.writes) l.address l.i l.at

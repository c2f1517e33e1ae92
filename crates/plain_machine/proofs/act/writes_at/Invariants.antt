use Rattle.std.proofs.Common.{◌≡◌, [], drop}
use Rattle.elf_image.specs.Memory.{writes_of}
use Rattle.plain_machine.proofs.act.writes_at.Given as goal

abbrev pub invariant-loop-byte : goal.invariant-loop-byte
invariant-loop-byte l = writes_of l.at (drop l.byte-index l.bytes) l.writes ≡ writes_of l.address l.bytes []

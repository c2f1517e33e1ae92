use Rattle.std.proofs.Common.{take}
use Rattle.written_parts.proofs.Writing.{SoFar}
use Rattle.written_parts.proofs.written.add_written.Given as goal

abbrev pub invariant-loop-k : goal.invariant-loop-k
invariant-loop-k l = SoFar l.fn.encoder l.encoder (take l.k l.accesses)

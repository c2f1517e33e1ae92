use Rattle.std.proofs.Common.{take}
use Rattle.reader_parts.proofs.Candidates.{SoFar}
use Rattle.reader_parts.proofs.candidate.candidates_of.Given as goal

abbrev pub invariant-loop-k : goal.invariant-loop-k
invariant-loop-k g l = SoFar l.fn.encoder l.encoder l.accesses l.reading (take l.k l.spots) l.candidates

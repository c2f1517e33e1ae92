use Rattle.std.proofs.Common.{take}
use Rattle.outcome_parts.proofs.Building.{SoFar}
use Rattle.outcome_parts.proofs.built.enders_of.Given as goal

abbrev pub invariant-loop-k : goal.invariant-loop-k
invariant-loop-k g l = SoFar l.fn.encoder l.encoder l.accesses l.reserved (take l.k l.rivals) l.enders

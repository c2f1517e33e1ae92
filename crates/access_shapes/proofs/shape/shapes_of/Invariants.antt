use Rattle.std.proofs.Common.{take}
use Rattle.access_shapes.proofs.Shaping.{SoFar}
use Rattle.access_shapes.proofs.shape.shapes_of.Given as goal

abbrev pub invariant-loop-x : goal.invariant-loop-x
invariant-loop-x l = SoFar l.pool l.accesses (take l.x l.accesses) l.shapes

use Rattle.std.proofs.Common.{◌≤◌, length}
use Rattle.sat_core.proofs.cutting.Cutting.walk.Given as goal

abbrev pub invariant-loop-at : goal.invariant-loop-at
invariant-loop-at l = l.at ≤ length l.engine.steps

abbrev pub decreases-loop-at : goal.decreases-loop-at
decreases-loop-at l = l.at

use Rattle.std.proofs.Common.{◌≤◌}
use Rattle.sat_core.specs.Marks.{NoneMarked}
use Rattle.sat_core.proofs.marks.quiet_below.Given as goal

abbrev pub invariant-loop-at : goal.invariant-loop-at
invariant-loop-at l = record { bound : l.at ≤ l.place; none : NoneMarked l.engine.steps l.marks l.at l.place }

abbrev pub decreases-loop-at : goal.decreases-loop-at
decreases-loop-at l = l.at

use Rattle.std.proofs.Common.{◌-◌}
use Rattle.sat_trail.specs.Visits.{IsStepped}
use Rattle.sat_trail.proofs.propagate.visit_rows.Given as goal

abbrev pub invariant-loop-next : goal.invariant-loop-next
invariant-loop-next l = IsStepped l.initial.trail l.initial.index l.trail l.index l.next

abbrev pub decreases-loop-next : goal.decreases-loop-next
decreases-loop-next l = l.trail.vars - l.next

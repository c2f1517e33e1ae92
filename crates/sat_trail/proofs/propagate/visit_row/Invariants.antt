use Rattle.std.proofs.Common.{◌-◌, length}
use Rattle.sat_trail.specs.Watching.{row_of}
use Rattle.sat_trail.specs.Visits.{IsHalf}
use Rattle.sat_trail.proofs.propagate.visit_row.Given as goal

abbrev pub invariant-loop-place : goal.invariant-loop-place
invariant-loop-place l = IsHalf l.initial.trail l.initial.index l.trail l.index l.at l.from l.place

abbrev pub decreases-loop-place : goal.decreases-loop-place
decreases-loop-place l = length (row_of l.index l.from) - l.place

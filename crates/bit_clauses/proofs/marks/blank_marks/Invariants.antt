use Rattle.std.proofs.Common.{◌≡◌, ◌+◌, ◌-◌, ◌≤◌, false, length}
use Rattle.std.specs.Prelude.{replicate}
use Rattle.bit_clauses.proofs.marks.blank_marks.Given as goal

abbrev pub invariant-loop-marks : goal.invariant-loop-marks
invariant-loop-marks l = (l.marks.items ≡ replicate (length l.marks.items) false) × (length l.marks.items ≤ l.root + 1)

abbrev pub decreases-loop-marks : goal.decreases-loop-marks
decreases-loop-marks l = l.root + 1 - length l.marks.items

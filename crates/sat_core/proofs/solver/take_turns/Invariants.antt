use Rattle.std.proofs.Common.{◌-◌, length}
use Rattle.sat_core.specs.Searching.{IsSoFar}
use Rattle.sat_core.proofs.solver.take_turns.Given as goal

abbrev pub invariant-loop-scout : goal.invariant-loop-scout
invariant-loop-scout l = IsSoFar l.clauses l.first l.budget l.lines

abbrev pub decreases-loop-scout : goal.decreases-loop-scout
decreases-loop-scout l = l.budget - length l.lines

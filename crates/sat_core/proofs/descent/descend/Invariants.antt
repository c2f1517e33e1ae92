use Rattle.std.proofs.Common.{◌-◌, length}
use Rattle.sat_core.specs.Searching.{IsDescended}
use Rattle.sat_core.proofs.descent.descend.Given as goal

abbrev pub invariant-loop-clash : goal.invariant-loop-clash
invariant-loop-clash l = IsDescended l.clauses.vars l.clauses.clauses l.first l.lines 0 l.engine l.clash

abbrev pub decreases-loop-clash : goal.decreases-loop-clash
decreases-loop-clash l = l.clauses.vars - length l.engine.steps

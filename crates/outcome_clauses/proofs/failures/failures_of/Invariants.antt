use Rattle.std.proofs.Common.{take}
use Rattle.outcome_clauses.specs.Failures.{AreFailures}
use Rattle.outcome_clauses.proofs.failures.failures_of.Given as goal

abbrev pub invariant-loop-ender : goal.invariant-loop-ender
invariant-loop-ender l = AreFailures l.initial.clauses l.clauses l.sc.same (take l.ender-index l.sc.enders) l.failures

use Rattle.clause_check.specs.Trials.{IsAssuming}
use Rattle.clause_check.proofs.trial.assume_false.Given as goal

abbrev pub invariant-loop-lit : goal.invariant-loop-lit
invariant-loop-lit l = IsAssuming l.fn.engine l.line l.lit-index l.tried

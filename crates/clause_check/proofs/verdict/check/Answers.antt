use Rattle.std.proofs.Common.{subst}
use Rattle.clause_check.specs.declared.verdict.Verdict.{Verdict}
use Rattle.clause_check.specs.Verdicts.{IsVerdict}
use Rattle.clause_check.proofs.Judging as judging
use Rattle.clause_check.proofs.verdict.check.Goals as goal

pub verdict_of-requires : goal.verdict_of-requires
verdict_of-requires c = c.in_ok-gap.ensures

pub returns-clause-verdict : goal.returns-clause-verdict
returns-clause-verdict c = c.verdict_of.ensures

pub returns-clause-refutes : goal.returns-clause-refutes
returns-clause-refutes c =
    λ e. judging.refuted_cant_be_satisfied (c.args.clauses.now).clauses c.args.lines.now
    (subst (λ (v : Verdict). IsVerdict (c.args.clauses.now).clauses c.args.lines.now v) e c.verdict_of.ensures)

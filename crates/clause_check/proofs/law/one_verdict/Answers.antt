use Rattle.clause_check.proofs.Judging as judging
use Rattle.clause_check.proofs.law.one_verdict.Goals as goal

pub returns : goal.returns
returns c = judging.one_verdict

use Rattle.clause_check.proofs.Judging as judging
use Rattle.clause_check.proofs.law.refuted_cant_be_satisfied.Goals as goal

pub returns : goal.returns
returns c = judging.refuted_cant_be_satisfied

use Rattle.odr_words.proofs.JobLemmas.{wanting}
use Rattle.odr_words.proofs.read.job_after.Goals as goal

pub returns-in_err-given-clause-job : goal.returns-in_err-given-clause-job
returns-in_err-given-clause-job c = wanting _ c.from_residual.result c.requires c.from_residual.ensures.1

use Rattle.valid_logs.proofs.Valid.{few_steps}
use Rattle.valid_logs.proofs.law.valid_logs_have_few_steps.Goals as goal

pub returns : goal.returns
returns c = few_steps

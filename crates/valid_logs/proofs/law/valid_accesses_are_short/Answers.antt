use Rattle.valid_logs.proofs.Valid.{short}
use Rattle.valid_logs.proofs.law.valid_accesses_are_short.Goals as goal

pub returns : goal.returns
returns c = short

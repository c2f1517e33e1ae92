use Rattle.rv_model.proofs.Difference.{no_difference}
use Rattle.rv_model.proofs.law.no_difference_is_log.Goals as goal

pub returns : goal.returns
returns c = no_difference

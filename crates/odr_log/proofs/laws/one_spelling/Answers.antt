use Rattle.odr_log.proofs.Whole.{no_prefix}
use Rattle.odr_log.proofs.laws.one_spelling.Goals as goal

pub returns : goal.returns
returns c = no_prefix

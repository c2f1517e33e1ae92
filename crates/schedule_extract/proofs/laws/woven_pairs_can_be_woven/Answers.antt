use Rattle.schedule_extract.proofs.Totals.{woven_can}
use Rattle.schedule_extract.proofs.laws.woven_pairs_can_be_woven.Goals as goal

pub returns : goal.returns
returns c = woven_can

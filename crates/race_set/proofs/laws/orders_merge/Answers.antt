use Rattle.race_set.proofs.Merge.{orders_merge}
use Rattle.race_set.proofs.laws.orders_merge.Goals as goal

pub returns : goal.returns
returns c = orders_merge

use Rattle.guided_walk.proofs.Table.{order_law}
use Rattle.guided_walk.proofs.laws.order_does_not_matter.Goals as goal

pub returns : goal.returns
returns c = order_law

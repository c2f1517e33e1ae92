use Rattle.walk_orders.proofs.Weaving.{weaving_law}
use Rattle.walk_orders.proofs.laws.total_orders_are_woven.Goals as goal

pub returns : goal.returns
returns c = weaving_law

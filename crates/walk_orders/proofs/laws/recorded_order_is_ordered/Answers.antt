use Rattle.walk_orders.proofs.RecordedOrder.{recorded_law}
use Rattle.walk_orders.proofs.laws.recorded_order_is_ordered.Goals as goal

pub returns : goal.returns
returns c = recorded_law

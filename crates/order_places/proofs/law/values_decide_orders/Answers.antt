use Rattle.order_places.proofs.Decided.{values_decide}
use Rattle.order_places.proofs.law.values_decide_orders.Goals as goal

pub returns : goal.returns
returns c = values_decide

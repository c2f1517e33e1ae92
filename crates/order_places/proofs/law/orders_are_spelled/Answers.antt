use Rattle.order_places.proofs.Placed.{orders_spelled}
use Rattle.order_places.proofs.law.orders_are_spelled.Goals as goal

pub returns : goal.returns
returns c = orders_spelled

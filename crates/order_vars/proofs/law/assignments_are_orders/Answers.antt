use Rattle.order_vars.proofs.Agreeing.{assignments_orders}
use Rattle.order_vars.proofs.law.assignments_are_orders.Goals as goal

pub returns : goal.returns
returns c = assignments_orders

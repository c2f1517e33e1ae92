use Rattle.order_vars.proofs.Agreeing.{orders_assignments}
use Rattle.order_vars.proofs.law.orders_are_assignments.Goals as goal

pub returns : goal.returns
returns c = orders_assignments

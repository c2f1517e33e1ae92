use Rattle.order_vars.proofs.Agreeing.{rest_order}
use Rattle.order_vars.proofs.law.rest_is_an_order.Goals as goal

pub returns : goal.returns
returns c = rest_order

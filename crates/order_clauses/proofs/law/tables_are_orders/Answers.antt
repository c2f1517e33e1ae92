use Rattle.order_clauses.proofs.TotalOrders.{tables_orders}
use Rattle.order_clauses.proofs.law.tables_are_orders.Goals as goal

pub returns : goal.returns
returns c = tables_orders

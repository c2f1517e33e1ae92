use Rattle.order_clauses.proofs.TotalOrders.{goes_both_ways}
use Rattle.order_clauses.proofs.law.open_goes_both_ways.Goals as goal

pub returns : goal.returns
returns c = goes_both_ways

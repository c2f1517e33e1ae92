use Rattle.outcome_clauses.proofs.Placing.{orders}
use Rattle.outcome_clauses.proofs.law.orders_place.Goals as goal

pub returns : goal.returns
returns c = orders

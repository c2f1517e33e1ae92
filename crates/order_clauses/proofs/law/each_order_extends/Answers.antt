use Rattle.order_clauses.proofs.Extends.{each_extends}
use Rattle.order_clauses.proofs.law.each_order_extends.Goals as goal

pub returns : goal.returns
returns c = each_extends

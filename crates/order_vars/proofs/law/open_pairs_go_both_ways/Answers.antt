use Rattle.order_vars.proofs.Agreeing.{open_both_ways}
use Rattle.order_vars.proofs.law.open_pairs_go_both_ways.Goals as goal

pub returns : goal.returns
returns c = open_both_ways

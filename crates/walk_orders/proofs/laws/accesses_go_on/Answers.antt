use Rattle.walk_orders.proofs.Accesses.{accesses_go_on}
use Rattle.walk_orders.proofs.laws.accesses_go_on.Goals as goal

pub returns : goal.returns
returns c = accesses_go_on

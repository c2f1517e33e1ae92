use Rattle.walk_orders.proofs.ListsAgree.{lists_agree}
use Rattle.walk_orders.proofs.laws.lists_with_exits_last_agree.Goals as goal

pub returns : goal.returns
returns c = lists_agree

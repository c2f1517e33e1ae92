use Rattle.walk_lists.proofs.Orders.{list_law}
use Rattle.walk_lists.proofs.law.walks_along_whole_lists.Goals as goal

pub returns : goal.returns
returns c = list_law

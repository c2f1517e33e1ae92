use Rattle.guided_walk.proofs.Table.{table_law}
use Rattle.guided_walk.proofs.laws.walks_along_lists.Goals as goal

pub returns : goal.returns
returns c = table_law

use Rattle.guided_walk.proofs.OrderedLaw.{ordered_law}
use Rattle.guided_walk.proofs.laws.ordered_lists_agree.Goals as goal

pub returns : goal.returns
returns c = ordered_law

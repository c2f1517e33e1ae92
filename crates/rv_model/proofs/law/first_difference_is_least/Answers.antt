use Rattle.rv_model.proofs.LeastPlace.{least_place}
use Rattle.rv_model.proofs.law.first_difference_is_least.Goals as goal

pub returns : goal.returns
returns c = least_place

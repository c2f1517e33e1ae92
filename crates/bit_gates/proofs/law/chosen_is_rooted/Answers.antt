use Rattle.bit_gates.proofs.Rooting.{chosen_rooted}
use Rattle.bit_gates.proofs.law.chosen_is_rooted.Goals as goal

pub returns : goal.returns
returns c = chosen_rooted

use Rattle.bit_gates.proofs.Rooting.{joined_rooted}
use Rattle.bit_gates.proofs.law.joined_is_rooted.Goals as goal

pub returns : goal.returns
returns c = joined_rooted

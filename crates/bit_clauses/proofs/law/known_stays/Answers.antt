use Rattle.bit_clauses.proofs.Sure.{known_later}
use Rattle.bit_clauses.proofs.law.known_stays.Goals as goal

pub returns : goal.returns
returns c = known_later

use Rattle.bit_clauses.proofs.Sure.{nothing_known}
use Rattle.bit_clauses.proofs.law.nothing_is_known.Goals as goal

pub returns : goal.returns
returns c = nothing_known

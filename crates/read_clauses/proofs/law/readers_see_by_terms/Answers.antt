use Rattle.read_clauses.proofs.Seeing.{readers_see}
use Rattle.read_clauses.proofs.law.readers_see_by_terms.Goals as goal

pub returns : goal.returns
returns c = readers_see

use Rattle.source_clauses.proofs.Composed.{one_more_reader}
use Rattle.source_clauses.proofs.law.readers_compose.Goals as goal

pub returns : goal.returns
returns c = one_more_reader

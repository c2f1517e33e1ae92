use Rattle.source_clauses.proofs.Composed.{no_readers}
use Rattle.source_clauses.proofs.law.no_reader.Goals as goal

pub returns : goal.returns
returns c = no_readers

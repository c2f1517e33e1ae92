use Rattle.source_clauses.proofs.Enough.{candidates_enough}
use Rattle.source_clauses.proofs.law.candidates_are_enough.Goals as goal

pub returns : goal.returns
returns c = candidates_enough

use Rattle.outcome_clauses.proofs.Placing.{places}
use Rattle.outcome_clauses.proofs.law.places_decide.Goals as goal

pub returns : goal.returns
returns c = places

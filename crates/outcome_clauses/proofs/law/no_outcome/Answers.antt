use Rattle.outcome_clauses.proofs.Composing.{no_outcomes}
use Rattle.outcome_clauses.proofs.law.no_outcome.Goals as goal

pub returns : goal.returns
returns c = no_outcomes

use Rattle.outcome_clauses.proofs.Composing.{one_more_outcome}
use Rattle.outcome_clauses.proofs.law.outcomes_compose.Goals as goal

pub returns : goal.returns
returns c = one_more_outcome

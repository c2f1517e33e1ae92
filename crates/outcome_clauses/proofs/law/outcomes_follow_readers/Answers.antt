use Rattle.outcome_clauses.proofs.Composing.{outcomes_after_readers}
use Rattle.outcome_clauses.proofs.law.outcomes_follow_readers.Goals as goal

pub returns : goal.returns
returns c = outcomes_after_readers

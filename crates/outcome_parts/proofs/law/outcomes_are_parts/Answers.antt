use Rattle.outcome_parts.proofs.Whole.{outcomes_whole}
use Rattle.outcome_parts.proofs.law.outcomes_are_parts.Goals as goal

pub returns : goal.returns
returns c = outcomes_whole

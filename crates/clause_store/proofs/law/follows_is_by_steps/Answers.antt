use Rattle.clause_store.proofs.StepLemmas.{by_steps}
use Rattle.clause_store.proofs.law.follows_is_by_steps.Goals as goal

pub returns : goal.returns
returns c = by_steps

use Rattle.clause_store.proofs.StepLemmas.{rest_by_steps}
use Rattle.clause_store.proofs.law.rest_is_by_steps.Goals as goal

pub returns : goal.returns
returns c = rest_by_steps

use Rattle.clause_store.proofs.Rest.{derived_true}
use Rattle.clause_store.proofs.law.derived_is_true.Goals as goal

pub returns : goal.returns
returns c = derived_true

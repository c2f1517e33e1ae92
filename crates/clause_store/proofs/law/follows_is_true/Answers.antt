use Rattle.clause_store.proofs.Rest.{true_under}
use Rattle.clause_store.proofs.law.follows_is_true.Goals as goal

pub returns : goal.returns
returns c = true_under

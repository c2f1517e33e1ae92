use Rattle.clause_store.proofs.Growth.{older_at_rest}
use Rattle.clause_store.proofs.law.older_at_rest.Goals as goal

pub returns : goal.returns
returns c = older_at_rest

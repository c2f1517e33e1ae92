use Rattle.clause_store.proofs.Growth.{older_satisfied}
use Rattle.clause_store.proofs.law.older_satisfied.Goals as goal

pub returns : goal.returns
returns c = older_satisfied

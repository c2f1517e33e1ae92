use Rattle.clause_store.proofs.Agreement.{alike}
use Rattle.clause_store.proofs.law.satisfied_alike.Goals as goal

pub returns : goal.returns
returns c = alike

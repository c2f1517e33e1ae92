use Rattle.clause_store.proofs.Rooting.{roots}
use Rattle.clause_store.proofs.law.roots_are_rooted.Goals as goal

pub returns : goal.returns
returns c = roots

use Rattle.clause_store.proofs.Rooting.{rooted_stays}
use Rattle.clause_store.proofs.law.rooted_stays.Goals as goal

pub returns : goal.returns
returns c = rooted_stays

use Rattle.clause_store.proofs.Growth.{growth_then}
use Rattle.clause_store.proofs.law.growth_composes.Goals as goal

pub returns : goal.returns
returns c = growth_then

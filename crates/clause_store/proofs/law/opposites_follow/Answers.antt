use Rattle.clause_store.proofs.Rest.{opposites}
use Rattle.clause_store.proofs.law.opposites_follow.Goals as goal

pub returns : goal.returns
returns c = opposites

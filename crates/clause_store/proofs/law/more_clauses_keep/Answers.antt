use Rattle.clause_store.proofs.Rest.{kept}
use Rattle.clause_store.proofs.law.more_clauses_keep.Goals as goal

pub returns : goal.returns
returns c = kept

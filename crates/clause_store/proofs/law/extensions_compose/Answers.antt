use Rattle.clause_store.proofs.Agreement.{composed}
use Rattle.clause_store.proofs.law.extensions_compose.Goals as goal

pub returns : goal.returns
returns c = composed

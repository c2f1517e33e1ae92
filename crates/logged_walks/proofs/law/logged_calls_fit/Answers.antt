use Rattle.logged_walks.proofs.Calls.{calls_fit}
use Rattle.logged_walks.proofs.law.logged_calls_fit.Goals as goal

pub returns : goal.returns
returns c = calls_fit

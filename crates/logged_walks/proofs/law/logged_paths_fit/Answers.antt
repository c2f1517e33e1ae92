use Rattle.logged_walks.proofs.Walks.{paths_fit}
use Rattle.logged_walks.proofs.law.logged_paths_fit.Goals as goal

pub returns : goal.returns
returns c = paths_fit

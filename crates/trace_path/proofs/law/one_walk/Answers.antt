use Rattle.trace_path.proofs.WholeLemmas.{walks_one}
use Rattle.trace_path.proofs.law.one_walk.Goals as goal

pub returns : goal.returns
returns c = walks_one

use Rattle.guest_mem.specs.Laws.{Stands-then}
use Rattle.guest_mem.proofs.law.writes_chain.Goals as goal

pub returns : goal.returns
returns c = Stands-then

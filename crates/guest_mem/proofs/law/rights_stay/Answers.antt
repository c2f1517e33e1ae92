use Rattle.guest_mem.specs.Laws.{Stands-rights}
use Rattle.guest_mem.proofs.law.rights_stay.Goals as goal

pub returns : goal.returns
returns c = Stands-rights

use Rattle.guided_walk.proofs.ScheduleLaw.{schedule_law}
use Rattle.guided_walk.proofs.laws.schedules_are_explained.Goals as goal

pub returns : goal.returns
returns c = schedule_law

use Rattle.sched_text.specs.TextLaws.{one_schedule}
use Rattle.sched_text.proofs.laws.one_schedule_of_a_text.Goals as goal

pub returns : goal.returns
returns c = one_schedule

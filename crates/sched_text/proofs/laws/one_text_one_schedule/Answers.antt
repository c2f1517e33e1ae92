use Rattle.sched_text.specs.TextLaws.{one_text}
use Rattle.sched_text.proofs.laws.one_text_one_schedule.Goals as goal

pub returns : goal.returns
returns c = one_text

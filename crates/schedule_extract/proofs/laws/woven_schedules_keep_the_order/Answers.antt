use Rattle.schedule_extract.proofs.Totals.{woven_keeps}
use Rattle.schedule_extract.proofs.laws.woven_schedules_keep_the_order.Goals as goal

pub returns : goal.returns
returns c = woven_keeps

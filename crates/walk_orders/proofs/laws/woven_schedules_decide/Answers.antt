use Rattle.walk_orders.proofs.Decided.{woven_decides}
use Rattle.walk_orders.proofs.laws.woven_schedules_decide.Goals as goal

pub returns : goal.returns
returns c = woven_decides

use Rattle.walk_orders.proofs.Decided.{logged_woven}
use Rattle.walk_orders.proofs.laws.logged_schedules_are_woven.Goals as goal

pub returns : goal.returns
returns c = logged_woven

use Rattle.schedule_extract.proofs.Totals.{total_woven}
use Rattle.schedule_extract.proofs.laws.total_orders_can_be_woven.Goals as goal

pub returns : goal.returns
returns c = total_woven

use Rattle.order_places.proofs.Merged.{assignments_spell}
use Rattle.order_places.proofs.law.assignments_spell_orders.Goals as goal

pub returns : goal.returns
returns c = assignments_spell

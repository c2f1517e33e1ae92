use Rattle.plain_walk.specs.Order.{HasRow}
use Rattle.plain_walk.proofs.order.has_row.Given as goal

abbrev pub invariant-loop-step : goal.invariant-loop-step
invariant-loop-step l = HasRow l.steps l.thread l.step

use Rattle.plain_walk.proofs.OrderLemmas.{HasRows}
use Rattle.plain_walk.proofs.order.has_all.Given as goal

abbrev pub invariant-loop-thread : goal.invariant-loop-thread
invariant-loop-thread l = HasRows l.notes l.steps l.thread

use Rattle.std.proofs.lemmas.Bool.{false≢true}
use Rattle.walk_lists.specs.Data.{told_of}
use Rattle.plain_walk.proofs.OrderLemmas.{order_next}
use Rattle.plain_walk.proofs.order.is_order.Goals as goal

pub returns-then-not-follows : goal.returns-then-not-follows
returns-then-not-follows c = (
  λ t. absurd (false≢true t),
  λ whole. absurd (false≢true (c.if-not-follows.ensures.1
      (order_next (told_of c.args.notes.now c.args.calls.now) c.args.steps.now c.loop-i.i _ c.loop-i-test.true c.loop-i.invariant whole))),
)

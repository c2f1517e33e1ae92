use Rattle.std.proofs.lemmas.Bool.{false≢true}
use Rattle.plain_walk.proofs.order.has_row.Goals as goal

pub returns-then-not-contains : goal.returns-then-not-contains
returns-then-not-contains c = (
  λ t. absurd (false≢true t),
  λ row. absurd (false≢true (c.if-not-contains.ensures.1 (row c.loop-step.step c.loop-step-test.true))),
)

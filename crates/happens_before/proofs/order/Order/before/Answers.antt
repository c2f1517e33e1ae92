use Rattle.std.proofs.lemmas.Bool.{ltb-true, lt-ltb}
use Rattle.happens_before.proofs.ClosedForm.{before_in_thread, before_apart}
use Rattle.happens_before.proofs.order.Order.before.Goals as goal

pub returns-then-a-b : goal.returns-then-a-b
returns-then-a-b c =
    λ log is from to. (
      λ less. (before_in_thread log is.fit c.args.a c.args.b from to c.if-a-b.true).0 (ltb-true c.args.a.step c.args.b.step less),
      λ order. lt-ltb c.args.a.step c.args.b.step ((before_in_thread log is.fit c.args.a c.args.b from to c.if-a-b.true).1 order),
    )

pub returns : goal.returns
returns c =
    λ log is from to.
    rw c.meets.ensures
    (before_apart log is.fit c.args.a c.args.b from to c.if-a-b.false c.leave.result c.arrival.result (c.leave.ensures log is from) (c.arrival.ensures log is to))

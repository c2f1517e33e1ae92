use Rattle.std.proofs.Common.{arith}
use Rattle.happens_before.proofs.TableLemmas.{leave_some, leave_none}
use Rattle.happens_before.proofs.order.Order.leave.Goals as goal

pub returns-then-place-calls : goal.returns-then-place-calls
returns-then-place-calls c =
    λ log is counted.
    leave_some c.args.self.now log c.args.at is counted c.calls-calls.result.now c.calls-calls.ensures c.from.result c.count_before-place.result
    c.count_before-place.ensures.point (record { step = 0; number = 0 }) c.from.ensures (omega arith)

pub returns-else-place-calls : goal.returns-else-place-calls
returns-else-place-calls c =
    λ log is counted.
    leave_none c.args.self.now log c.args.at is counted c.calls-calls.result.now c.calls-calls.ensures c.from.result c.count_before-place.result
    c.count_before-place.ensures.point c.from.ensures (omega arith)

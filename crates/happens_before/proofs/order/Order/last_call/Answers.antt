use Rattle.std.specs.Prelude.{◌+◌}
use Rattle.std.proofs.Common.{arith}
use Rattle.happens_before.proofs.TableLemmas.{last_some, last_none}
use Rattle.happens_before.proofs.order.Order.last_call.Goals as goal

pub returns-in-0 : goal.returns-in-0
returns-in-0 c =
    λ log is counted.
    last_none c.args.self.now log c.args.at is counted c.calls-calls.result.now c.calls-calls.ensures (c.from.result + 1) c.count_before.result
    c.count_before.ensures.point (omega (arith, c.from.ensures)) c.in-0.is

pub returns-in_default : goal.returns-in_default
returns-in_default c =
    λ log is counted.
    last_some c.args.self.now log c.args.at is counted c.calls-calls.result.now c.calls-calls.ensures (c.from.result + 1) c.count_before.result
    c.count_before.ensures.point (record { step = 0; number = 0 }) (omega (arith, c.from.ensures)) (omega (arith, c.in_default)) c.count_before.ensures.within

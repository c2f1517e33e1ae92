use Rattle.std.proofs.Common.{◌≡◌, ◌++◌}
use Rattle.step_order.specs.SoFar.{steps_between}
use Rattle.step_order.proofs.order.push_steps.Given as goal

abbrev pub invariant-loop-step : goal.invariant-loop-step
invariant-loop-step l = l.order ≡ l.fn.order ++ steps_between l.thread l.fn.from l.step

use Rattle.std.proofs.Common.{◌≡◌, replicate}
use Rattle.odr_top.proofs.infer.only_schedule.Given as goal

abbrev pub invariant-loop-step : goal.invariant-loop-step
invariant-loop-step l = l.schedule ≡ replicate l._step 0

use Rattle.std.proofs.Common.{◌≡◌, ◌≤◌, take, reverse}
use Rattle.guided_walk.specs.Schedules.{count}
use Rattle.plain_walk.proofs.fit.count.Given as goal

abbrev pub invariant-loop-step : goal.invariant-loop-step
invariant-loop-step l = (l.count ≡ count l.thread (reverse (take l.step-index l.steps))) × (l.count ≤ l.step-index)

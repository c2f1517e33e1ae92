use Rattle.std.proofs.Common.{◌≡◌, take, reverse}
use Rattle.guided_walk.specs.Fits.{reserved}
use Rattle.plain_walk.specs.Tables.{visits_in}
use Rattle.plain_walk.proofs.fit.reserved_after.Given as goal

abbrev pub invariant-loop-step : goal.invariant-loop-step
invariant-loop-step l = l.reservation ≡ reserved l.image (visits_in l.table) l.thread (reverse (take l.step-index l.steps))

use Rattle.std.proofs.Common.{◌≡◌, drop, []}
use Rattle.guided_walk.specs.Along.{walk_along}
use Rattle.plain_walk.specs.Data.{given_of, visits_of}
use Rattle.walk_lists.specs.Data.{told_of}
use Rattle.plain_walk.specs.Tables.{visits_in}
use Rattle.plain_walk.proofs.walk.walk_along.Given as goal

abbrev pub invariant-loop-step : goal.invariant-loop-step
invariant-loop-step l =
    walk_along l.image (told_of l.notes l.calls) (given_of l.rows) (drop l.step-index l.steps) (visits_in l.table)
    ≡ walk_along l.image (told_of l.notes l.calls) (given_of l.rows) l.steps (visits_of l.table.nothing [])

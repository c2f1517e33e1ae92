use Rattle.std.proofs.Common.{◌↔◌, [], take, drop}
use Rattle.walk_lists.specs.Data.{told_of}
use Rattle.walk_lists.specs.Order.{IsOrder}
use Rattle.plain_walk.proofs.order.is_order.Given as goal

abbrev pub invariant-loop-i : goal.invariant-loop-i
invariant-loop-i l =
    IsOrder (told_of l.notes l.calls) [] l.steps ↔ IsOrder (told_of l.notes l.calls) (take l.i l.steps) (drop l.i l.steps)

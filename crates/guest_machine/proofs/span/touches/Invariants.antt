use Rattle.std.proofs.Common.{◌≡◌, ◌-◌}
use Rattle.guest_machine.specs.Spans.{touches_from}
use Rattle.guest_machine.proofs.span.touches.Given as goal

abbrev pub invariant-loop-done : goal.invariant-loop-done
invariant-loop-done l = touches_from l.at (l.fn.span.count - l._done) l.reserved ≡ touches_from l.fn.span.address l.fn.span.count l.reserved

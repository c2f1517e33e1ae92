use Rattle.std.proofs.Common.{◌≡◌, ◌++◌, map, take, drop}
use Rattle.guest_machine.specs.Spans.{touches_span, losing_by}
use Rattle.guest_machine.proofs.span.end_reservations.Given as goal

abbrev pub invariant-loop-thread : goal.invariant-loop-thread
invariant-loop-thread l = l.threads ≡ map (losing_by (touches_span l.span)) (take l.thread-index l.initial.threads) ++ drop l.thread-index l.initial.threads

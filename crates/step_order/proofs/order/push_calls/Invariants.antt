use Rattle.std.proofs.Common.{◌≡◌, length}
use Rattle.step_order.specs.SoFar.{IsSoFar}
use Rattle.step_order.proofs.order.push_calls.Given as goal

abbrev pub invariant-loop-called : goal.invariant-loop-called
invariant-loop-called l = record {
  count : length l.next ≡ length l.log.threads;
  so_far : IsSoFar l.log l.called-index l.order l.next;
}

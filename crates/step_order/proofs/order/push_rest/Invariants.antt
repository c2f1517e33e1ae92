use Rattle.std.proofs.Common.{◌≡◌, length}
use Rattle.step_order.specs.SoFar.{IsSoFar}
use Rattle.step_order.proofs.Whole.{AreWhole}
use Rattle.step_order.proofs.order.push_rest.Given as goal

abbrev pub invariant-loop-thread : goal.invariant-loop-thread
invariant-loop-thread l = record {
  count : length l.next ≡ length l.log.threads;
  so_far : IsSoFar l.log (length l.log.calls) l.order l.next;
  whole : AreWhole l.log l.thread l.next;
}

use Rattle.std.proofs.Common.{◌<◌, length, arith}
use Rattle.step_order.proofs.Whole.{calls_kept, length_kept}
use Rattle.step_order.proofs.order.push_calls.Goals as goal

pub loop-called-preserved : goal.loop-called-preserved
loop-called-preserved c =
    let within : c.loop-called.called-index < length c.as_slice-called-items.result.now = omega (arith, c.loop-called-test.true) in
    record {
      count =
          length_kept c.loop-called.next c.go_on.new.next c.called-item.result.tid c.step_behind.result (length c.args.log.now.threads) c.in_ok-go_on.ensures.next
          c.loop-called.invariant.count;
      so_far =
          calls_kept c.args.log.now c.as_slice-called-items.result.now c.as_slice-called-items.ensures c.loop-called.called-index c.called-item.result within
          c.called-item.is c.step_behind.result c.step_behind.ensures c.loop-called.order c.go_on.new.order c.loop-called.next c.go_on.new.next
          c.loop-called.invariant.count c.in_ok-go_on.ensures.order c.in_ok-go_on.ensures.next c.loop-called.invariant.so_far;
    }

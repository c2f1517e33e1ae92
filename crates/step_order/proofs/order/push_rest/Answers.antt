use Rattle.std.proofs.Common.{◌<◌, ◌≤◌, length, arith}
use Rattle.step_order.proofs.Whole.{length_kept, rest_all, rest_kept, whole_kept}
use Rattle.step_order.proofs.order.push_rest.Goals as goal

pub loop-thread-preserved : goal.loop-thread-preserved
loop-thread-preserved c =
    let within : c.loop-thread.thread < length c.loop-thread.next = omega (arith, c.loop-thread-test.true, c.len-thread-end.ensures, c.loop-thread.invariant.count) in
    record {
      count =
          length_kept c.loop-thread.next c.go_on.new.next c.loop-thread.thread c.steps_logged.result (length c.args.log.now.threads) c.in_ok-go_on.ensures.next
          c.loop-thread.invariant.count;
      so_far =
          rest_kept c.args.log.now c.loop-thread.thread c.steps_logged.result c.loop-thread.order c.go_on.new.order c.loop-thread.next c.go_on.new.next within
          c.steps_logged.ensures c.in_ok-go_on.ensures.order c.in_ok-go_on.ensures.next c.loop-thread.invariant.so_far;
      whole =
          whole_kept c.args.log.now c.loop-thread.thread c.steps_logged.result c.loop-thread.next c.go_on.new.next within c.steps_logged.ensures
          c.in_ok-go_on.ensures.next c.loop-thread.invariant.whole;
    }

pub returns : goal.returns
returns c =
    let past : length c.args.log.now.threads ≤ c.loop-thread.thread = omega (arith, c.loop-thread-test.false, c.len-thread-end.ensures) in
    rest_all c.args.log.now c.loop-thread.thread c.loop-thread.order c.loop-thread.next past c.loop-thread.invariant.whole c.loop-thread.invariant.so_far

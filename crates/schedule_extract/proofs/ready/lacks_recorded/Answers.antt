use Rattle.std.proofs.Common.{◌≤◌, length, arith}
use Rattle.schedule_extract.proofs.Standing.{none_before}
use Rattle.schedule_extract.proofs.ready.lacks_recorded.Goals as goal

pub returns-clause-none : goal.returns-clause-none
returns-clause-none c =
    let past : length c.args.log.now.threads ≤ c.loop-thread.thread = omega (arith, c.loop-thread-test.false, c.len-thread-end.ensures) in
    none_before c.args.log.now c.args.next.now c.args.at c.loop-thread.thread past c.loop-thread.invariant

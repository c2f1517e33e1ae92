use Rattle.std.proofs.lemmas.Result.{err_from_is_err_and}
use Rattle.odr_log.specs.Reading.{list_at, thread_at}
use Rattle.odr_log.proofs.Loop.{goes_on, ends, is_done}
use Rattle.odr_log.proofs.reading.threads_of.Goals as goal

pub returns-in_err-thread : goal.returns-in_err-thread
returns-in_err-thread c =
    let p = err_from_is_err_and c.from_residual.result c.from_residual.ensures.1 in
    rw (p.1, p.2) (ends thread_at c.in_err-thread.field-0.0 c.loop.threads c.args.count c.loop.counter c.loop.rest.now
    (list_at thread_at c.args.count c.args.bytes.now) c.loop-test.true c.in_err-thread.ensures c.loop.invariant)

pub loop-preserved : goal.loop-preserved
loop-preserved c =
    rw c.in_ok-push.ensures (goes_on thread_at c.loop.threads c.args.count c.loop.counter c.loop.rest.now c.in_ok-thread.thread c.in_ok-thread.after.now
    (list_at thread_at c.args.count c.args.bytes.now) c.loop-test.true c.in_ok-thread.ensures c.loop.invariant)

pub returns : goal.returns
returns c = is_done thread_at c.loop.threads c.args.count c.loop.counter c.loop.rest.now (list_at thread_at c.args.count c.args.bytes.now) c.loop-test.false c.loop.invariant

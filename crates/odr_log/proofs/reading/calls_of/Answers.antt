use Rattle.std.proofs.lemmas.Result.{err_from_is_err_and}
use Rattle.odr_log.specs.Reading.{list_at, record_at}
use Rattle.odr_log.proofs.Loop.{goes_on, ends, is_done}
use Rattle.odr_log.proofs.reading.calls_of.Goals as goal

pub returns-in_err-call : goal.returns-in_err-call
returns-in_err-call c =
    let p = err_from_is_err_and c.from_residual.result c.from_residual.ensures.1 in
    rw (p.1, p.2) (ends (record_at c.args.threads) c.in_err-call.field-0.0 c.loop.calls c.args.count c.loop.counter c.loop.rest.now
    (list_at (record_at c.args.threads) c.args.count c.args.bytes.now) c.loop-test.true c.in_err-call.ensures c.loop.invariant)

pub loop-preserved : goal.loop-preserved
loop-preserved c =
    rw c.in_ok-push.ensures (goes_on (record_at c.args.threads) c.loop.calls c.args.count c.loop.counter c.loop.rest.now c.in_ok-call.call c.in_ok-call.after.now
    (list_at (record_at c.args.threads) c.args.count c.args.bytes.now) c.loop-test.true c.in_ok-call.ensures c.loop.invariant)

pub returns : goal.returns
returns c = is_done (record_at c.args.threads) c.loop.calls c.args.count c.loop.counter c.loop.rest.now (list_at (record_at c.args.threads) c.args.count c.args.bytes.now) c.loop-test.false c.loop.invariant

use Rattle.std.proofs.Common.{◌<◌, arith, rules}
use Rattle.sat_trail.proofs.Running.{loading-false, loading-push}
use Rattle.sat_trail.proofs.engine.put_alone.Goals as goal

pub returns-in-False : goal.returns-in-False
returns-in-False c =
    loading-false c.args.trail.now c.args.index.now c.args.at c.pair-one.result c.requires.loading c.len-clauses.ensures.indexed c.pair-one.ensures.pair (c.if-not-is.ensures.0 (search rules)) c.in-False.ensures

pub returns-in_ok-push-in-Open : goal.returns-in_ok-push-in-Open
returns-in_ok-push-in-Open c =
    let known : c.pair-one.result.one.var < c.args.trail.now.vars = omega (arith, (c.pair-one.ensures.known).0, c.requires.loading.vars) in
    loading-push c.args.trail.now c.push.new.self c.args.index.now c.args.at c.pair-one.result c.requires.loading c.len-clauses.ensures.indexed c.pair-one.ensures.pair (c.if-not-is.ensures.0 (search rules)) c.in-Open.ensures
    known c.in_ok-push-in-Open.ensures.ok

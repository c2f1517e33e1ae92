use Rattle.std.proofs.Common.{Bool, refl, subst, arith}
use Rattle.sat_trail.specs.Engines.{IsPut}
use Rattle.sat_trail.proofs.Running.{loading-start, loading-end}
use Rattle.sat_trail.proofs.engine.Engine.start.Goals as goal

pub loop-at-init : goal.loop-at-init
loop-at-init c = loading-start c.in_ok-trail.trail c.args.index c.vars.result c.in_ok-trail.ensures c.vars.ensures

pub put_alone-requires-clause-loading : goal.put_alone-requires-clause-loading
put_alone-requires-clause-loading c = c.loop-at.invariant

pub loop-at-preserved : goal.loop-at-preserved
loop-at-preserved c = subst (λ (b : Bool). IsPut c.put_alone.new.trail c.args.index c.loop-at.at b) c.if-not-branch.false c.in_ok-put_alone.ensures

pub invariant_of-result : goal.invariant_of-result
invariant_of-result c = loading-end c.loop-at.trail c.args.index c.loop-at.at c.loop-at.invariant (omega (arith, c.len-count.ensures.number))

pub returns : goal.returns
returns c = record { same_vars = c.loop-at.invariant.vars; same_clauses = refl; forced = c.loop-at.invariant.forced }

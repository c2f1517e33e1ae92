use Rattle.std.proofs.Common.{subst, sym}
use Rattle.sat_trail.specs.Engines.{State, CanOpen}
use Rattle.sat_trail.proofs.Running.{engine-open}
use Rattle.sat_trail.proofs.engine.Engine.learn_open.Goals as goal

pub invariant_of-result : goal.invariant_of-result
invariant_of-result c =
    engine-open c.self.inside.trail c.self.inside.index c.in_ok-index.index c.self.inside.next c.args.line.now c.args.one c.args.two c.self.invariant c.len-clauses.ensures.indexed c.in_ok-index.ensures
    (subst (λ (s : State). CanOpen s.steps c.args.line.now c.args.one c.args.two) (sym c.self.view_is) c.requires.fits)

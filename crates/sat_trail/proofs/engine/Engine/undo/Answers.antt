use Rattle.std.proofs.Common.{subst, sym}
use Rattle.sat_trail.specs.Paths.{IsDecision}
use Rattle.sat_trail.specs.Engines.{State}
use Rattle.sat_trail.proofs.Running.{engine-undone}
use Rattle.sat_trail.proofs.engine.Engine.undo.Goals as goal

pub invariant_of-result : goal.invariant_of-result
invariant_of-result c =
    engine-undone c.self.inside.trail c.undo.new.self c.self.inside.index c.self.inside.next c.args.to c.self.invariant
    (subst (λ (s : State). IsDecision s.steps c.args.to) (sym c.self.view_is) c.requires) c.undo.ensures

use Rattle.std.proofs.Common.{◌≡◌, ◌<◌, length, subst, sym}
use Rattle.clause_store.specs.UnitRule.{LeavesOpen}
use Rattle.sat_trail.specs.Paths.{value_in}
use Rattle.sat_trail.specs.Engines.{State}
use Rattle.sat_trail.proofs.Running.{engine-decided}
use Rattle.sat_trail.proofs.engine.Engine.decide.Goals as goal

pub invariant_of-result : goal.invariant_of-result
invariant_of-result c =
    engine-decided c.self.inside.trail c.push.new.self c.self.inside.index c.self.inside.next c.args.lit c.self.invariant c.len-clauses.ensures.indexed
    (subst (λ (s : State). s.next ≡ length s.steps) (sym c.self.view_is) c.requires.settled)
    (subst (λ (s : State). c.args.lit.var < s.vars) (sym c.self.view_is) c.requires.known)
    (subst (λ (s : State). LeavesOpen (value_in s.steps) c.args.lit) (sym c.self.view_is) c.requires.still_open) c.in_ok-push.ensures.ok

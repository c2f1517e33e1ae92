use Rattle.std.proofs.Common.{◌<◌, ◌∙◌, ℕ, Some, subst, sym, ap}
use Rattle.std.proofs.lemmas.List.Elements.{All-contains}
use Rattle.clause_store.specs.declared.lit.Lit.{Lit}
use Rattle.clause_store.specs.Formula.{IsKnown}
use Rattle.sat_trail.specs.Paths.{with_step}
use Rattle.sat_trail.specs.Engines.{State, CanUnit}
use Rattle.sat_trail.proofs.Running.{engine-unit}
use Rattle.sat_trail.proofs.engine.Engine.learn_unit.Goals as goal

pub invariant_of-result : goal.invariant_of-result
invariant_of-result c =
    engine-unit c.self.inside.trail c.push.new.self c.self.inside.index c.in_ok-index.index c.self.inside.next c.args.line.now c.args.key c.args.second c.self.invariant c.len-number.ensures.indexed c.in_ok-index.ensures
    (subst (λ (s : State). CanUnit s.steps c.args.line.now c.args.key c.args.second) (sym c.self.view_is) c.requires.fits)
    (All-contains (λ (k : Lit). k.var < c.self.inside.trail.vars) c.args.line.now c.args.key
    (subst (λ (s : State). IsKnown s.vars c.args.line.now) (sym c.self.view_is) c.requires.known) c.requires.fits.key_listed)
    (c.in_ok-push.ensures.ok ∙ ap (λ (n : ℕ). with_step c.self.inside.trail c.args.key (Some n)) c.len-number.ensures.number)

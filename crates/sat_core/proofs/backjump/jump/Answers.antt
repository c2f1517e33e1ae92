use Rattle.std.proofs.Common.{◌∙◌, subst, sym, ap}
use Rattle.clause_store.specs.Formula.{IsKnown}
use Rattle.sat_trail.specs.Engines.{State, CanUnit, with_unit}
use Rattle.sat_core.proofs.Answering as answering
use Rattle.sat_core.proofs.backjump.jump.Goals as goal

pub learn_unit-requires-clause-known : goal.learn_unit-requires-clause-known
learn_unit-requires-clause-known c = subst (λ (s : State). IsKnown s.vars c.args.line.now) (sym c.undo-front.ensures) c.requires.known

pub learn_unit-requires-clause-fits : goal.learn_unit-requires-clause-fits
learn_unit-requires-clause-fits c =
    subst (λ (s : State). CanUnit s.steps c.args.line.now c.args.key c.args.second) (sym c.undo-front.ensures)
    (answering.can-unit c.args.engine c.args.is_first.now c.args.line.now c.args.key c.args.second c.args.to c.requires)

pub returns : goal.returns
returns c =
    answering.back-unit c.args.engine c.in_ok-more.more c.args.to c.args.line.now c.args.key
    (c.in_ok-more.ensures ∙ ap (λ (s : State). with_unit s c.args.line.now c.args.key) c.undo-front.ensures)

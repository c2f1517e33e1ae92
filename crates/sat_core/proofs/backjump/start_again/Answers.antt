use Rattle.std.proofs.Common.{◌∙◌, subst, sym, ap}
use Rattle.clause_store.specs.Formula.{IsKnown}
use Rattle.sat_trail.specs.Engines.{State, CanOpen, with_line}
use Rattle.sat_core.proofs.Answering as answering
use Rattle.sat_core.proofs.backjump.start_again.Goals as goal

pub learn_open-requires-clause-known : goal.learn_open-requires-clause-known
learn_open-requires-clause-known c = subst (λ (s : State). IsKnown s.vars c.args.line.now) (sym c.undo-front.ensures) c.requires.learned.known

pub learn_open-requires-clause-fits : goal.learn_open-requires-clause-fits
learn_open-requires-clause-fits c =
    subst (λ (s : State). CanOpen s.steps c.args.line.now c.args.key c.args.second) (sym c.undo-front.ensures)
    (answering.can-open c.args.engine c.args.is_first.now c.args.line.now c.args.key c.args.second c.args.to c.args.lowest c.requires.learned c.requires.lower c.requires.decided)

pub returns : goal.returns
returns c =
    answering.back-open c.args.engine c.in_ok-more.more c.args.lowest c.args.line.now
    (c.in_ok-more.ensures ∙ ap (λ (s : State). with_line s c.args.line.now) c.undo-front.ensures)

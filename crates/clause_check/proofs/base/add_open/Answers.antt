use Rattle.clause_check.proofs.Basing as basing
use Rattle.clause_check.proofs.base.add_open.Goals as goal

pub learn_open-requires-clause-fits : goal.learn_open-requires-clause-fits
learn_open-requires-clause-fits c = basing.can-open c.args.engine.steps c.args.line.now c.args.key c.args.second c.requires.open c.requires.beside

pub returns : goal.returns
returns c = basing.open-base c.args.engine c.in_ok-more.more c.args.line.now c.args.key c.args.second c.requires.calm c.requires.open c.requires.beside c.in_ok-more.ensures

use Rattle.sat_trail.specs.Paths.{value_in}
use Rattle.sat_trail.proofs.Blocking.{block-third}
use Rattle.sat_trail.proofs.visit.block_or_move.Goals as goal

pub returns-in-True : goal.returns-in-True
returns-in-True c =
    block-third c.args.index.now (value_in c.args.trail.now.steps) c.args.from c.args.at c.args.clause c.args.stay c.args.to c.requires.known c.requires.can c.in-True.ensures

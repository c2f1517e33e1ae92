use Rattle.sat_trail.specs.Paths.{value_in}
use Rattle.sat_trail.proofs.Looking.{keep-blocker, block-stay, push-stay}
use Rattle.sat_trail.proofs.visit.look_at.Goals as goal

pub returns-in-True : goal.returns-in-True
returns-in-True c =
    keep-blocker c.args.index.now (value_in c.args.trail.now.steps) c.args.from c.args.at c.watcher-watcher.result c.watcher-watcher.ensures.indexed c.watcher-watcher.ensures.watcher c.in-True.ensures

pub returns-in-True-truth : goal.returns-in-True-truth
returns-in-True-truth c =
    block-stay c.args.index.now (value_in c.args.trail.now.steps) c.args.from c.args.at c.watcher-watcher.result c.pair-pair.result c.in-Some.stay c.watcher-watcher.ensures.indexed
    c.requires.known c.watcher-watcher.ensures.watcher c.pair-pair.ensures.pair c.in-Some.ensures c.in-True-truth.ensures

pub returns-in-None : goal.returns-in-None
returns-in-None c =
    push-stay c.args.index.now (value_in c.args.trail.now.steps) c.args.from c.args.at c.watcher-watcher.result c.pair-pair.result c.in-Some.stay c.clause.result.now c.watcher-watcher.ensures.indexed
    c.watcher-watcher.ensures.watcher c.pair-pair.ensures.pair c.in-Some.ensures c.clause.ensures.clause c.in-Open.ensures c.in-None.ensures

use Rattle.sat_trail.proofs.Indexing.{watcher-numbered, watcher-known}
use Rattle.sat_trail.proofs.index.Index.watcher.Goals as goal

pub returns-clause-numbered : goal.returns-clause-numbered
returns-clause-numbered c = watcher-numbered c.args.self.now c.args.of c.args.at c.watcher_at.result c.len-clauses.ensures.indexed c.watcher_at.ensures

pub returns-clause-known : goal.returns-clause-known
returns-clause-known c = watcher-known c.args.self.now c.args.of c.args.at c.watcher_at.result c.len-clauses.ensures.indexed c.watcher_at.ensures

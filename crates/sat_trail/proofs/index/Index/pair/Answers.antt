use Rattle.sat_trail.proofs.Indexing.{pair-known}
use Rattle.sat_trail.proofs.index.Index.pair.Goals as goal

pub returns-clause-known : goal.returns-clause-known
returns-clause-known c = pair-known c.args.self.now c.args.at c.pair_at.result c.len-clauses.ensures.indexed c.pair_at.ensures

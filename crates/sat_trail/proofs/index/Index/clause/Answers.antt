use Rattle.sat_trail.proofs.Indexing.{clause-known}
use Rattle.sat_trail.proofs.index.Index.clause.Goals as goal

pub returns-clause-known : goal.returns-clause-known
returns-clause-known c = clause-known c.args.self.now c.args.at c.literals_at.result.now c.len-clauses.ensures.indexed c.literals_at.ensures

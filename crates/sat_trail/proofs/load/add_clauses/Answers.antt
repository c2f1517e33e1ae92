use Rattle.sat_trail.proofs.Loads.{holding-more}
use Rattle.sat_trail.proofs.load.add_clauses.Goals as goal

pub loop-at-preserved : goal.loop-at-preserved
loop-at-preserved c =
    holding-more c.args.index c.loop-at.index c.args.clauses.now.clauses c.loop-at.at c.clause.result.now c.in_ok-more.field-0 c.in-Some.more c.loop-at.invariant c.clause.ensures c.in_ok-more.ensures c.in-Some.is

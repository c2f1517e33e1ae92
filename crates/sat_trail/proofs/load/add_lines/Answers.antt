use Rattle.sat_trail.proofs.Loads.{holding-more}
use Rattle.sat_trail.proofs.load.add_lines.Goals as goal

pub loop-at-preserved : goal.loop-at-preserved
loop-at-preserved c =
    holding-more c.args.index c.loop-at.index c.args.lines.now c.loop-at.at c.line.result.now c.in_ok-more.field-0 c.in-Some.more c.loop-at.invariant c.line.ensures c.in_ok-more.ensures c.in-Some.is

use Rattle.race_set.specs.Places.{recorded_in}
use Rattle.race_set.proofs.Kept.{outcomes_more}
use Rattle.race_set.proofs.outcome.open_outcomes.Goals as goal

pub loop-conditional-preserved : goal.loop-conditional-preserved
loop-conditional-preserved c =
    outcomes_more c.args.shapes.now (recorded_in c.args.recorded.now) c.loop-conditional.conditional c.open_outcome.result c.loop-conditional.outcomes
    c.put.new.into c.open_outcome.ensures.some c.open_outcome.ensures.none c.in_ok-put.ensures c.loop-conditional.invariant

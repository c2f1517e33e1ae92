use Rattle.race_set.specs.Needs.{is_needed}
use Rattle.race_set.proofs.Kept.{needed_more}
use Rattle.race_set.proofs.race_set.ordered_of.Goals as goal

pub loop-number-preserved : goal.loop-number-preserved
loop-number-preserved c =
    needed_more c.args.shapes.now (is_needed c.args.shapes.now c.args.readings.now c.args.outcomes.now) c.loop-number.number c.needed_at.result
    c.loop-number.ordered c.put.new.into c.loop-number-test.true c.needed_at.ensures c.in_ok-put.ensures c.loop-number.invariant

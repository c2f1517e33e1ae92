use Rattle.race_set.specs.Places.{recorded_in}
use Rattle.race_set.specs.Outcomes.{AreOutcomes}
use Rattle.race_set.proofs.outcome.open_outcomes.Given as goal

abbrev pub invariant-loop-conditional : goal.invariant-loop-conditional
invariant-loop-conditional l = AreOutcomes l.shapes (recorded_in l.recorded) l.conditional l.outcomes

use Rattle.race_set.specs.Needs.{is_needed, AreNeeded}
use Rattle.race_set.proofs.race_set.ordered_of.Given as goal

abbrev pub invariant-loop-number : goal.invariant-loop-number
invariant-loop-number l = AreNeeded l.shapes (is_needed l.shapes l.readings l.outcomes) l.number l.ordered

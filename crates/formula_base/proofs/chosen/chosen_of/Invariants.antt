use Rattle.race_set.specs.Needs.{AreNeeded}
use Rattle.formula_base.specs.Asked.{is_asked}
use Rattle.formula_base.proofs.chosen.chosen_of.Given as goal

abbrev pub invariant-loop-number : goal.invariant-loop-number
invariant-loop-number l = AreNeeded l.shapes (is_asked l.shapes l.needed l.also) l.number l.chosen

use Rattle.bv_rewrite.specs.Forms.{StandsIn, part_shape}
use Rattle.bv_rewrite.proofs.part.deepest.Given as goal

abbrev pub invariant-loop-inner : goal.invariant-loop-inner
invariant-loop-inner l = StandsIn l.pool (part_shape l.fn.part) (part_shape l.found)

abbrev pub decreases-loop-inner : goal.decreases-loop-inner
decreases-loop-inner l = l.found.of.number

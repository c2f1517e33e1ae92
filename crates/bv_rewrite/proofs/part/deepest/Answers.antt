use Rattle.bv_rewrite.specs.Forms.{part_shape}
use Rattle.bv_rewrite.proofs.Parts.{stands_through}
use Rattle.bv_rewrite.proofs.part.deepest.Goals as goal

pub loop-inner-preserved : goal.loop-inner-preserved
loop-inner-preserved c =
    stands_through c.args.pool.now (part_shape c.args.part) (part_shape c.loop-inner.found) (part_shape c.in-Some.inner) c.loop-inner.invariant c.in-Some.ensures.stands

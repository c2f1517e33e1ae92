use Rattle.bv_rewrite.proofs.Parts.{negative_twice}
use Rattle.bv_rewrite.proofs.form.negative.Goals as goal

pub returns-in-Neg : goal.returns-in-Neg
returns-in-Neg c =
    negative_twice c.args.pool.now c.args.of.number c.in-Neg.inner.number c.width-width.result
    (record { inside = c.requires; found = c.in-Neg.ensures.node; fitting = c.in-Neg.ensures.fitting; width = c.in-Neg.ensures.width; value = c.in-Neg.ensures.value })
    (record { is = c.width-width.ensures.width; below = c.width-width.ensures.below })

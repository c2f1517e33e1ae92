use Rattle.bv_rewrite.proofs.Parts.{inverse_twice}
use Rattle.bv_rewrite.proofs.form.inverse.Goals as goal

pub returns-in-Not : goal.returns-in-Not
returns-in-Not c =
    inverse_twice c.args.pool.now c.args.of.number c.in-Not.inner.number c.width-width.result
    (record { inside = c.requires; found = c.in-Not.ensures.node; fitting = c.in-Not.ensures.fitting; width = c.in-Not.ensures.width; value = c.in-Not.ensures.value })
    (record { is = c.width-width.ensures.width; below = c.width-width.ensures.below })

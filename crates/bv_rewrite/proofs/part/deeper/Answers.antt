use Rattle.bv_rewrite.proofs.Parts.{deeper_part}
use Rattle.bv_rewrite.proofs.part.deeper.Goals as goal

pub returns-in-Extract-clause-stands : goal.returns-in-Extract-clause-stands
returns-in-Extract-clause-stands c =
    let it = c.in-Extract in
    deeper_part c.args.pool.now c.args.part.of.number c.args.part.high c.args.part.low it.of.number it.high it.low
    (record { inside = c.requires.0; found = it.ensures.node; fitting = it.ensures.fitting; width = it.ensures.width; value = it.ensures.value }) c.requires

use Rattle.std.proofs.Common.{◌≡◌, arith}
use Rattle.bv_terms.specs.Shapes.{Extract}
use Rattle.bv_rewrite.specs.Forms.{part_shape}
use Rattle.bv_rewrite.proofs.Parts.{form_through, whole_term}
use Rattle.bv_rewrite.proofs.part.part_of.Goals as goal

pub returns-then-is_next : goal.returns-then-is_next
returns-then-is_next c =
    let nodes = c.args.pool.now in
    let found = c.deepest-part.result in
    let first : found.low ≡ 0 = omega arith in
    form_through nodes (Extract c.args.of.number c.args.high c.args.low) (part_shape found) found.of.number c.deepest-part.ensures
    (whole_term nodes found.of.number found.high found.low c.width-whole.result c.deepest-part.ensures.fitting.0
    (record { is = c.width-whole.ensures.width; below = c.width-whole.ensures.below }) first (c.is_next.ensures c.if-is_next.true))

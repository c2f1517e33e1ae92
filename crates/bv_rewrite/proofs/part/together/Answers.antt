use Rattle.std.proofs.Common.{◌≡◌, ℕ, arith, subst, sym}
use Rattle.bv_terms.specs.Shapes.{Extract}
use Rattle.bv_rewrite.specs.Forms.{Holds}
use Rattle.bv_rewrite.proofs.Parts.{one_part}
use Rattle.bv_rewrite.proofs.part.together.Goals as goal

pub returns-then-is_next : goal.returns-then-is_next
returns-then-is_next c =
    let nodes = c.args.pool.now in
    let upper = c.in_ok-upper.upper in
    let lower = c.in_ok-lower.lower in
    let same : upper.of.number ≡ lower.of.number = omega arith in
    one_part nodes c.args.left.number c.args.right.number upper.of.number upper.high upper.low lower.high lower.low c.in_ok-upper.ensures
    (subst (λ k. Holds nodes c.args.right.number (Extract k lower.high lower.low)) (sym same) c.in_ok-lower.ensures) (c.is_next.ensures c.if-is_next.true)

use Rattle.std.proofs.Common.{◌<◌, ◌≤◌, arith}
use Rattle.bv_rewrite.proofs.Parts.{left_part, right_part}
use Rattle.bv_rewrite.proofs.part.in_half.Goals as goal

pub returns-then-part-below-clause-stands : goal.returns-then-part-below-clause-stands
returns-then-part-below-clause-stands c =
    let part = c.args.part in
    let inside : part.high < c.args.below = omega arith in
    right_part c.args.pool.now part.of.number part.high part.low c.args.left.number c.args.right.number c.args.below c.requires.joined c.requires.below c.requires.fitting inside

pub returns-clause-stands : goal.returns-clause-stands
returns-clause-stands c =
    let part = c.args.part in
    let past : c.args.below ≤ part.low = omega arith in
    left_part c.args.pool.now part.of.number part.high part.low c.args.left.number c.args.right.number c.args.below c.requires.joined c.requires.below c.requires.fitting past

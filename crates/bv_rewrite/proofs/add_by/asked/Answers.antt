use Rattle.bv_rewrite.proofs.Replacing.{answers_hold, one_width}
use Rattle.bv_rewrite.proofs.add_by.asked.Goals as goal

pub returns-in_default : goal.returns-in_default
returns-in_default g c =
    answers_hold c.args.pool.now c.args.op c.args.left.number c.args.right.number c.of.result c.swap.result c.of.ensures.view
    (one_width c.args.op _ _ c.in_default.not-Concat c.requires.operands) c.of.ensures.agrees c.swap.ensures.right

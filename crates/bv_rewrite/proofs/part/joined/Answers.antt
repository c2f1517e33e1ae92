use Rattle.bv_terms.specs.declared.node.BinOp.TheVariants as op
use Rattle.bv_terms.specs.Shapes.{Bin}
use Rattle.bv_rewrite.specs.Forms.{part_shape}
use Rattle.bv_rewrite.proofs.Parts.{form_of_other}
use Rattle.bv_rewrite.proofs.part.joined.Goals as goal

pub returns-in-Some : goal.returns-in-Some
returns-in-Some c =
    form_of_other c.args.pool.now (Bin op.Concat c.args.left.number c.args.right.number) (part_shape c.in-Some.part) c.part_of.result c.in-Some.ensures c.part_of.ensures

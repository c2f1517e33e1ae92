use Rattle.std.proofs.Common.{◌-◌, ◌∙◌, ap, sym}
use Rattle.rv32_decode.specs.declared.instr.BranchOp.{BranchOp}
use Rattle.bv_terms.specs.declared.node.BinOp.TheVariants as op
use Rattle.bv_terms.specs.BitVectors.{bin_value, bit_of, bits}
use Rattle.rv_model.specs.Values.{taken_of}
use Rattle.step_terms.proofs.Making.{bounded, by_values}
use Rattle.step_terms.proofs.Words.{equal, less, less_signed, not_less, not_less_signed, unequal}
use Rattle.step_terms.proofs.branch.taken.Goals as goal

pub returns-in-Beq-clause-made : goal.returns-in-Beq-clause-made
returns-in-Beq-clause-made g c =
    let old = c.args.pool.now in
    let a = c.args.left.number in
    let b = c.args.right.number in
    by_values c.of_words.result old c.of_words.new.pool a b 1 (λ x y. bin_value op.Eq (bits 32 x) (bits 32 y)) (λ x y. bit_of (taken_of c.args.op x y))
    (bounded old a 32 c.width-left_width.result c.requires.left c.width-left_width.ensures.width c.width-left_width.ensures.below)
    (bounded old b 32 c.width-right_width.result c.requires.right c.width-right_width.ensures.width c.width-right_width.ensures.below)
    c.of_words.ensures.made (λ x y hx hy. equal x y ∙ ap (λ (o : BranchOp). bit_of (taken_of o x y)) (sym c.in-Beq.is))

pub returns-in-Bne-clause-made : goal.returns-in-Bne-clause-made
returns-in-Bne-clause-made g c =
    let old = c.args.pool.now in
    let a = c.args.left.number in
    let b = c.args.right.number in
    by_values c.fails.result old c.fails.new.pool a b 1 (λ x y. 1 - bin_value op.Eq (bits 32 x) (bits 32 y)) (λ x y. bit_of (taken_of c.args.op x y))
    (bounded old a 32 c.width-left_width.result c.requires.left c.width-left_width.ensures.width c.width-left_width.ensures.below)
    (bounded old b 32 c.width-right_width.result c.requires.right c.width-right_width.ensures.width c.width-right_width.ensures.below)
    c.fails.ensures.made (λ x y hx hy. unequal x y ∙ ap (λ (o : BranchOp). bit_of (taken_of o x y)) (sym c.in-Bne.is))

pub returns-in-Blt-clause-made : goal.returns-in-Blt-clause-made
returns-in-Blt-clause-made g c =
    let old = c.args.pool.now in
    let a = c.args.left.number in
    let b = c.args.right.number in
    by_values c.of_words-in-Blt.result old c.of_words-in-Blt.new.pool a b 1 (λ x y. bin_value op.Slt (bits 32 x) (bits 32 y)) (λ x y. bit_of (taken_of c.args.op x y))
    (bounded old a 32 c.width-left_width.result c.requires.left c.width-left_width.ensures.width c.width-left_width.ensures.below)
    (bounded old b 32 c.width-right_width.result c.requires.right c.width-right_width.ensures.width c.width-right_width.ensures.below)
    c.of_words-in-Blt.ensures.made (λ x y hx hy. less_signed x y hx hy ∙ ap (λ (o : BranchOp). bit_of (taken_of o x y)) (sym c.in-Blt.is))

pub returns-in-Bge-clause-made : goal.returns-in-Bge-clause-made
returns-in-Bge-clause-made g c =
    let old = c.args.pool.now in
    let a = c.args.left.number in
    let b = c.args.right.number in
    by_values c.fails-in-Bge.result old c.fails-in-Bge.new.pool a b 1 (λ x y. 1 - bin_value op.Slt (bits 32 x) (bits 32 y)) (λ x y. bit_of (taken_of c.args.op x y))
    (bounded old a 32 c.width-left_width.result c.requires.left c.width-left_width.ensures.width c.width-left_width.ensures.below)
    (bounded old b 32 c.width-right_width.result c.requires.right c.width-right_width.ensures.width c.width-right_width.ensures.below)
    c.fails-in-Bge.ensures.made (λ x y hx hy. not_less_signed x y hx hy ∙ ap (λ (o : BranchOp). bit_of (taken_of o x y)) (sym c.in-Bge.is))

pub returns-in-Bltu-clause-made : goal.returns-in-Bltu-clause-made
returns-in-Bltu-clause-made g c =
    let old = c.args.pool.now in
    let a = c.args.left.number in
    let b = c.args.right.number in
    by_values c.of_words-in-Bltu.result old c.of_words-in-Bltu.new.pool a b 1 (λ x y. bin_value op.Ult (bits 32 x) (bits 32 y)) (λ x y. bit_of (taken_of c.args.op x y))
    (bounded old a 32 c.width-left_width.result c.requires.left c.width-left_width.ensures.width c.width-left_width.ensures.below)
    (bounded old b 32 c.width-right_width.result c.requires.right c.width-right_width.ensures.width c.width-right_width.ensures.below)
    c.of_words-in-Bltu.ensures.made (λ x y hx hy. less x y ∙ ap (λ (o : BranchOp). bit_of (taken_of o x y)) (sym c.in-Bltu.is))

pub returns-in-Bgeu-clause-made : goal.returns-in-Bgeu-clause-made
returns-in-Bgeu-clause-made g c =
    let old = c.args.pool.now in
    let a = c.args.left.number in
    let b = c.args.right.number in
    by_values c.fails-in-Bgeu.result old c.fails-in-Bgeu.new.pool a b 1 (λ x y. 1 - bin_value op.Ult (bits 32 x) (bits 32 y)) (λ x y. bit_of (taken_of c.args.op x y))
    (bounded old a 32 c.width-left_width.result c.requires.left c.width-left_width.ensures.width c.width-left_width.ensures.below)
    (bounded old b 32 c.width-right_width.result c.requires.right c.width-right_width.ensures.width c.width-right_width.ensures.below)
    c.fails-in-Bgeu.ensures.made (λ x y hx hy. not_less x y ∙ ap (λ (o : BranchOp). bit_of (taken_of o x y)) (sym c.in-Bgeu.is))

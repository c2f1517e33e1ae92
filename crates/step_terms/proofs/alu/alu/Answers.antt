use Rattle.std.proofs.Common.{◌-◌, ◌%◌, ◌^◌, ◌∙◌, ap, cond, sym, nat_eq}
use Rattle.rv32_decode.specs.declared.instr.AluOp.{AluOp}
use Rattle.bv_terms.specs.declared.node.BinOp.TheVariants as op
use Rattle.bv_terms.specs.BitVectors.{bin_value, bits}
use Rattle.rv_model.specs.Values.{alu_of}
use Rattle.step_terms.specs.Division.{extended, high_product, signed_quotient, signed_remainder}
use Rattle.step_terms.proofs.Products.{high_mixed, high_signed, high_unsigned}
use Rattle.step_terms.proofs.Divisions.{divide, remainder}
use Rattle.step_terms.proofs.Making.{bounded, by_values}
use Rattle.step_terms.proofs.Words.{both_bits, comparison, comparison_signed, difference, either_bit, exclusive, left_over, product, quotient, shift_left, shift_right, shift_signed, sum}
use Rattle.step_terms.proofs.alu.alu.Goals as goal

pub returns-in-Add-clause-made : goal.returns-in-Add-clause-made
returns-in-Add-clause-made g c =
    let old = c.args.pool.now in
    let a = c.args.left.number in
    let b = c.args.right.number in
    by_values c.of_words.result old c.of_words.new.pool a b 32 (λ x y. bin_value op.Add (bits 32 x) (bits 32 y)) (λ x y. alu_of c.args.op x y)
    (bounded old a 32 c.width-left_width.result c.requires.left c.width-left_width.ensures.width c.width-left_width.ensures.below)
    (bounded old b 32 c.width-right_width.result c.requires.right c.width-right_width.ensures.width c.width-right_width.ensures.below)
    c.of_words.ensures.made (λ x y hx hy. sum x y ∙ ap (λ (o : AluOp). alu_of o x y) (sym c.in-Add.is))

pub returns-in-Sub-clause-made : goal.returns-in-Sub-clause-made
returns-in-Sub-clause-made g c =
    let old = c.args.pool.now in
    let a = c.args.left.number in
    let b = c.args.right.number in
    by_values c.of_words-in-Sub.result old c.of_words-in-Sub.new.pool a b 32 (λ x y. bin_value op.Sub (bits 32 x) (bits 32 y)) (λ x y. alu_of c.args.op x y)
    (bounded old a 32 c.width-left_width.result c.requires.left c.width-left_width.ensures.width c.width-left_width.ensures.below)
    (bounded old b 32 c.width-right_width.result c.requires.right c.width-right_width.ensures.width c.width-right_width.ensures.below)
    c.of_words-in-Sub.ensures.made (λ x y hx hy. difference x y hy ∙ ap (λ (o : AluOp). alu_of o x y) (sym c.in-Sub.is))

pub returns-in-Xor-clause-made : goal.returns-in-Xor-clause-made
returns-in-Xor-clause-made g c =
    let old = c.args.pool.now in
    let a = c.args.left.number in
    let b = c.args.right.number in
    by_values c.of_words-in-Xor.result old c.of_words-in-Xor.new.pool a b 32 (λ x y. bin_value op.Xor (bits 32 x) (bits 32 y)) (λ x y. alu_of c.args.op x y)
    (bounded old a 32 c.width-left_width.result c.requires.left c.width-left_width.ensures.width c.width-left_width.ensures.below)
    (bounded old b 32 c.width-right_width.result c.requires.right c.width-right_width.ensures.width c.width-right_width.ensures.below)
    c.of_words-in-Xor.ensures.made (λ x y hx hy. exclusive x y ∙ ap (λ (o : AluOp). alu_of o x y) (sym c.in-Xor.is))

pub returns-in-Or-clause-made : goal.returns-in-Or-clause-made
returns-in-Or-clause-made g c =
    let old = c.args.pool.now in
    let a = c.args.left.number in
    let b = c.args.right.number in
    by_values c.of_words-in-Or.result old c.of_words-in-Or.new.pool a b 32 (λ x y. bin_value op.Or (bits 32 x) (bits 32 y)) (λ x y. alu_of c.args.op x y)
    (bounded old a 32 c.width-left_width.result c.requires.left c.width-left_width.ensures.width c.width-left_width.ensures.below)
    (bounded old b 32 c.width-right_width.result c.requires.right c.width-right_width.ensures.width c.width-right_width.ensures.below)
    c.of_words-in-Or.ensures.made (λ x y hx hy. either_bit x y ∙ ap (λ (o : AluOp). alu_of o x y) (sym c.in-Or.is))

pub returns-in-And-clause-made : goal.returns-in-And-clause-made
returns-in-And-clause-made g c =
    let old = c.args.pool.now in
    let a = c.args.left.number in
    let b = c.args.right.number in
    by_values c.of_words-in-And.result old c.of_words-in-And.new.pool a b 32 (λ x y. bin_value op.And (bits 32 x) (bits 32 y)) (λ x y. alu_of c.args.op x y)
    (bounded old a 32 c.width-left_width.result c.requires.left c.width-left_width.ensures.width c.width-left_width.ensures.below)
    (bounded old b 32 c.width-right_width.result c.requires.right c.width-right_width.ensures.width c.width-right_width.ensures.below)
    c.of_words-in-And.ensures.made (λ x y hx hy. both_bits x y ∙ ap (λ (o : AluOp). alu_of o x y) (sym c.in-And.is))

pub returns-in-Mul-clause-made : goal.returns-in-Mul-clause-made
returns-in-Mul-clause-made g c =
    let old = c.args.pool.now in
    let a = c.args.left.number in
    let b = c.args.right.number in
    by_values c.of_words-in-Mul.result old c.of_words-in-Mul.new.pool a b 32 (λ x y. bin_value op.Mul (bits 32 x) (bits 32 y)) (λ x y. alu_of c.args.op x y)
    (bounded old a 32 c.width-left_width.result c.requires.left c.width-left_width.ensures.width c.width-left_width.ensures.below)
    (bounded old b 32 c.width-right_width.result c.requires.right c.width-right_width.ensures.width c.width-right_width.ensures.below)
    c.of_words-in-Mul.ensures.made (λ x y hx hy. product x y ∙ ap (λ (o : AluOp). alu_of o x y) (sym c.in-Mul.is))

pub returns-in-Divu-clause-made : goal.returns-in-Divu-clause-made
returns-in-Divu-clause-made g c =
    let old = c.args.pool.now in
    let a = c.args.left.number in
    let b = c.args.right.number in
    by_values c.of_words-in-Divu.result old c.of_words-in-Divu.new.pool a b 32 (λ x y. bin_value op.Udiv (bits 32 x) (bits 32 y)) (λ x y. alu_of c.args.op x y)
    (bounded old a 32 c.width-left_width.result c.requires.left c.width-left_width.ensures.width c.width-left_width.ensures.below)
    (bounded old b 32 c.width-right_width.result c.requires.right c.width-right_width.ensures.width c.width-right_width.ensures.below)
    c.of_words-in-Divu.ensures.made (λ x y hx hy. quotient x y ∙ ap (λ (o : AluOp). alu_of o x y) (sym c.in-Divu.is))

pub returns-in-Remu-clause-made : goal.returns-in-Remu-clause-made
returns-in-Remu-clause-made g c =
    let old = c.args.pool.now in
    let a = c.args.left.number in
    let b = c.args.right.number in
    by_values c.of_words-in-Remu.result old c.of_words-in-Remu.new.pool a b 32 (λ x y. bin_value op.Urem (bits 32 x) (bits 32 y)) (λ x y. alu_of c.args.op x y)
    (bounded old a 32 c.width-left_width.result c.requires.left c.width-left_width.ensures.width c.width-left_width.ensures.below)
    (bounded old b 32 c.width-right_width.result c.requires.right c.width-right_width.ensures.width c.width-right_width.ensures.below)
    c.of_words-in-Remu.ensures.made (λ x y hx hy. left_over x y ∙ ap (λ (o : AluOp). alu_of o x y) (sym c.in-Remu.is))

pub returns-in-Sll-clause-made : goal.returns-in-Sll-clause-made
returns-in-Sll-clause-made g c =
    let old = c.args.pool.now in
    let a = c.args.left.number in
    let b = c.args.right.number in
    by_values c.shifted.result old c.shifted.new.pool a b 32 (λ x y. bin_value op.Shl (bits 32 x) (bits 32 (y % 2 ^ 5))) (λ x y. alu_of c.args.op x y)
    (bounded old a 32 c.width-left_width.result c.requires.left c.width-left_width.ensures.width c.width-left_width.ensures.below)
    (bounded old b 32 c.width-right_width.result c.requires.right c.width-right_width.ensures.width c.width-right_width.ensures.below)
    c.shifted.ensures.made (λ x y hx hy. shift_left x y ∙ ap (λ (o : AluOp). alu_of o x y) (sym c.in-Sll.is))

pub returns-in-Slt-clause-made : goal.returns-in-Slt-clause-made
returns-in-Slt-clause-made g c =
    let old = c.args.pool.now in
    let a = c.args.left.number in
    let b = c.args.right.number in
    by_values c.compared.result old c.compared.new.pool a b 32 (λ x y. bin_value op.Slt (bits 32 x) (bits 32 y)) (λ x y. alu_of c.args.op x y)
    (bounded old a 32 c.width-left_width.result c.requires.left c.width-left_width.ensures.width c.width-left_width.ensures.below)
    (bounded old b 32 c.width-right_width.result c.requires.right c.width-right_width.ensures.width c.width-right_width.ensures.below)
    c.compared.ensures.made (λ x y hx hy. comparison_signed x y hx hy ∙ ap (λ (o : AluOp). alu_of o x y) (sym c.in-Slt.is))

pub returns-in-Sltu-clause-made : goal.returns-in-Sltu-clause-made
returns-in-Sltu-clause-made g c =
    let old = c.args.pool.now in
    let a = c.args.left.number in
    let b = c.args.right.number in
    by_values c.compared-in-Sltu.result old c.compared-in-Sltu.new.pool a b 32 (λ x y. bin_value op.Ult (bits 32 x) (bits 32 y)) (λ x y. alu_of c.args.op x y)
    (bounded old a 32 c.width-left_width.result c.requires.left c.width-left_width.ensures.width c.width-left_width.ensures.below)
    (bounded old b 32 c.width-right_width.result c.requires.right c.width-right_width.ensures.width c.width-right_width.ensures.below)
    c.compared-in-Sltu.ensures.made (λ x y hx hy. comparison x y ∙ ap (λ (o : AluOp). alu_of o x y) (sym c.in-Sltu.is))

pub returns-in-Srl-clause-made : goal.returns-in-Srl-clause-made
returns-in-Srl-clause-made g c =
    let old = c.args.pool.now in
    let a = c.args.left.number in
    let b = c.args.right.number in
    by_values c.shifted-in-Srl.result old c.shifted-in-Srl.new.pool a b 32 (λ x y. bin_value op.Lshr (bits 32 x) (bits 32 (y % 2 ^ 5))) (λ x y. alu_of c.args.op x y)
    (bounded old a 32 c.width-left_width.result c.requires.left c.width-left_width.ensures.width c.width-left_width.ensures.below)
    (bounded old b 32 c.width-right_width.result c.requires.right c.width-right_width.ensures.width c.width-right_width.ensures.below)
    c.shifted-in-Srl.ensures.made (λ x y hx hy. shift_right x y ∙ ap (λ (o : AluOp). alu_of o x y) (sym c.in-Srl.is))

pub returns-in-Sra-clause-made : goal.returns-in-Sra-clause-made
returns-in-Sra-clause-made g c =
    let old = c.args.pool.now in
    let a = c.args.left.number in
    let b = c.args.right.number in
    by_values c.shifted-in-Sra.result old c.shifted-in-Sra.new.pool a b 32 (λ x y. bin_value op.Ashr (bits 32 x) (bits 32 (y % 2 ^ 5))) (λ x y. alu_of c.args.op x y)
    (bounded old a 32 c.width-left_width.result c.requires.left c.width-left_width.ensures.width c.width-left_width.ensures.below)
    (bounded old b 32 c.width-right_width.result c.requires.right c.width-right_width.ensures.width c.width-right_width.ensures.below)
    c.shifted-in-Sra.ensures.made (λ x y hx hy. shift_signed x y hx ∙ ap (λ (o : AluOp). alu_of o x y) (sym c.in-Sra.is))

pub returns-in-Mulh-clause-made : goal.returns-in-Mulh-clause-made
returns-in-Mulh-clause-made g c =
    let old = c.args.pool.now in
    let a = c.args.left.number in
    let b = c.args.right.number in
    by_values c.high_signed.result old c.high_signed.new.pool a b 32 (λ x y. high_product (extended x) (extended y)) (λ x y. alu_of c.args.op x y)
    (bounded old a 32 c.width-left_width.result c.requires.left c.width-left_width.ensures.width c.width-left_width.ensures.below)
    (bounded old b 32 c.width-right_width.result c.requires.right c.width-right_width.ensures.width c.width-right_width.ensures.below)
    c.high_signed.ensures.made (λ x y hx hy. high_signed x y hx hy ∙ ap (λ (o : AluOp). alu_of o x y) (sym c.in-Mulh.is))

pub returns-in-Mulhsu-clause-made : goal.returns-in-Mulhsu-clause-made
returns-in-Mulhsu-clause-made g c =
    let old = c.args.pool.now in
    let a = c.args.left.number in
    let b = c.args.right.number in
    by_values c.high_mixed.result old c.high_mixed.new.pool a b 32 (λ x y. high_product (extended x) y) (λ x y. alu_of c.args.op x y)
    (bounded old a 32 c.width-left_width.result c.requires.left c.width-left_width.ensures.width c.width-left_width.ensures.below)
    (bounded old b 32 c.width-right_width.result c.requires.right c.width-right_width.ensures.width c.width-right_width.ensures.below)
    c.high_mixed.ensures.made (λ x y hx hy. high_mixed x y hx hy ∙ ap (λ (o : AluOp). alu_of o x y) (sym c.in-Mulhsu.is))

pub returns-in-Mulhu-clause-made : goal.returns-in-Mulhu-clause-made
returns-in-Mulhu-clause-made g c =
    let old = c.args.pool.now in
    let a = c.args.left.number in
    let b = c.args.right.number in
    by_values c.high_unsigned.result old c.high_unsigned.new.pool a b 32 (λ x y. high_product x y) (λ x y. alu_of c.args.op x y)
    (bounded old a 32 c.width-left_width.result c.requires.left c.width-left_width.ensures.width c.width-left_width.ensures.below)
    (bounded old b 32 c.width-right_width.result c.requires.right c.width-right_width.ensures.width c.width-right_width.ensures.below)
    c.high_unsigned.ensures.made (λ x y hx hy. high_unsigned x y hx hy ∙ ap (λ (o : AluOp). alu_of o x y) (sym c.in-Mulhu.is))

pub returns-in-Div-clause-made : goal.returns-in-Div-clause-made
returns-in-Div-clause-made g c =
    let old = c.args.pool.now in
    let a = c.args.left.number in
    let b = c.args.right.number in
    by_values c.divided.result old c.divided.new.pool a b 32 (λ x y. cond (nat_eq y 0) (2 ^ 32 - 1) (signed_quotient x y)) (λ x y. alu_of c.args.op x y)
    (bounded old a 32 c.width-left_width.result c.requires.left c.width-left_width.ensures.width c.width-left_width.ensures.below)
    (bounded old b 32 c.width-right_width.result c.requires.right c.width-right_width.ensures.width c.width-right_width.ensures.below)
    c.divided.ensures.made (λ x y hx hy. divide x y hx hy ∙ ap (λ (o : AluOp). alu_of o x y) (sym c.in-Div.is))

pub returns-in-Rem-clause-made : goal.returns-in-Rem-clause-made
returns-in-Rem-clause-made g c =
    let old = c.args.pool.now in
    let a = c.args.left.number in
    let b = c.args.right.number in
    by_values c.signed_remainder.result old c.signed_remainder.new.pool a b 32 (λ x y. signed_remainder x y) (λ x y. alu_of c.args.op x y)
    (bounded old a 32 c.width-left_width.result c.requires.left c.width-left_width.ensures.width c.width-left_width.ensures.below)
    (bounded old b 32 c.width-right_width.result c.requires.right c.width-right_width.ensures.width c.width-right_width.ensures.below)
    c.signed_remainder.ensures.made (λ x y hx hy. remainder x y hx hy ∙ ap (λ (o : AluOp). alu_of o x y) (sym c.in-Rem.is))

use Rattle.std.proofs.Common.{◌∷◌, [], ◌∙◌, ap, cond, sym, nat_eq}
use Rattle.rv32_decode.specs.declared.instr.AmoOp.{AmoOp}
use Rattle.bv_terms.specs.declared.node.BinOp.TheVariants as op
use Rattle.bv_terms.specs.BitVectors.{bin_value, bits}
use Rattle.bv_terms.specs.Values.{value_at}
use Rattle.rv_model.specs.Values.{amo_of}
use Rattle.step_terms.proofs.Making.{bounded, by_values, reworded}
use Rattle.step_terms.proofs.Words.{atomic_both, atomic_either, atomic_exclusive, atomic_sum, greatest, least, signed_max, signed_min, swapped}
use Rattle.step_terms.proofs.atomic.amo.Goals as goal

pub returns-in-Add-clause-made : goal.returns-in-Add-clause-made
returns-in-Add-clause-made g c =
    let old = c.args.pool.now in
    let a = c.args.old.number in
    let b = c.args.word.number in
    by_values c.of_words.result old c.of_words.new.pool a b 32 (λ x y. bin_value op.Add (bits 32 x) (bits 32 y)) (λ x y. amo_of c.args.op x y)
    (bounded old a 32 c.width-old_width.result c.requires.old c.width-old_width.ensures.width c.width-old_width.ensures.below)
    (bounded old b 32 c.width-word_width.result c.requires.word c.width-word_width.ensures.width c.width-word_width.ensures.below)
    c.of_words.ensures.made (λ x y hx hy. atomic_sum x y ∙ ap (λ (o : AmoOp). amo_of o x y) (sym c.in-Add.is))

pub returns-in-Xor-clause-made : goal.returns-in-Xor-clause-made
returns-in-Xor-clause-made g c =
    let old = c.args.pool.now in
    let a = c.args.old.number in
    let b = c.args.word.number in
    by_values c.of_words-in-Xor.result old c.of_words-in-Xor.new.pool a b 32 (λ x y. bin_value op.Xor (bits 32 x) (bits 32 y)) (λ x y. amo_of c.args.op x y)
    (bounded old a 32 c.width-old_width.result c.requires.old c.width-old_width.ensures.width c.width-old_width.ensures.below)
    (bounded old b 32 c.width-word_width.result c.requires.word c.width-word_width.ensures.width c.width-word_width.ensures.below)
    c.of_words-in-Xor.ensures.made (λ x y hx hy. atomic_exclusive x y ∙ ap (λ (o : AmoOp). amo_of o x y) (sym c.in-Xor.is))

pub returns-in-And-clause-made : goal.returns-in-And-clause-made
returns-in-And-clause-made g c =
    let old = c.args.pool.now in
    let a = c.args.old.number in
    let b = c.args.word.number in
    by_values c.of_words-in-And.result old c.of_words-in-And.new.pool a b 32 (λ x y. bin_value op.And (bits 32 x) (bits 32 y)) (λ x y. amo_of c.args.op x y)
    (bounded old a 32 c.width-old_width.result c.requires.old c.width-old_width.ensures.width c.width-old_width.ensures.below)
    (bounded old b 32 c.width-word_width.result c.requires.word c.width-word_width.ensures.width c.width-word_width.ensures.below)
    c.of_words-in-And.ensures.made (λ x y hx hy. atomic_both x y ∙ ap (λ (o : AmoOp). amo_of o x y) (sym c.in-And.is))

pub returns-in-Or-clause-made : goal.returns-in-Or-clause-made
returns-in-Or-clause-made g c =
    let old = c.args.pool.now in
    let a = c.args.old.number in
    let b = c.args.word.number in
    by_values c.of_words-in-Or.result old c.of_words-in-Or.new.pool a b 32 (λ x y. bin_value op.Or (bits 32 x) (bits 32 y)) (λ x y. amo_of c.args.op x y)
    (bounded old a 32 c.width-old_width.result c.requires.old c.width-old_width.ensures.width c.width-old_width.ensures.below)
    (bounded old b 32 c.width-word_width.result c.requires.word c.width-word_width.ensures.width c.width-word_width.ensures.below)
    c.of_words-in-Or.ensures.made (λ x y hx hy. atomic_either x y ∙ ap (λ (o : AmoOp). amo_of o x y) (sym c.in-Or.is))

pub returns-in-Min-clause-made : goal.returns-in-Min-clause-made
returns-in-Min-clause-made g c =
    let old = c.args.pool.now in
    let a = c.args.old.number in
    let b = c.args.word.number in
    by_values c.first_where.result old c.first_where.new.pool a b 32 (λ x y. cond (nat_eq (bin_value op.Slt (bits 32 x) (bits 32 y)) 1) x y) (λ x y. amo_of c.args.op x y)
    (bounded old a 32 c.width-old_width.result c.requires.old c.width-old_width.ensures.width c.width-old_width.ensures.below)
    (bounded old b 32 c.width-word_width.result c.requires.word c.width-word_width.ensures.width c.width-word_width.ensures.below)
    c.first_where.ensures.made (λ x y hx hy. signed_min x y hx hy ∙ ap (λ (o : AmoOp). amo_of o x y) (sym c.in-Min.is))

pub returns-in-Max-clause-made : goal.returns-in-Max-clause-made
returns-in-Max-clause-made g c =
    let old = c.args.pool.now in
    let a = c.args.old.number in
    let b = c.args.word.number in
    by_values c.second_where.result old c.second_where.new.pool a b 32 (λ x y. cond (nat_eq (bin_value op.Slt (bits 32 x) (bits 32 y)) 1) y x) (λ x y. amo_of c.args.op x y)
    (bounded old a 32 c.width-old_width.result c.requires.old c.width-old_width.ensures.width c.width-old_width.ensures.below)
    (bounded old b 32 c.width-word_width.result c.requires.word c.width-word_width.ensures.width c.width-word_width.ensures.below)
    c.second_where.ensures.made (λ x y hx hy. signed_max x y hx hy ∙ ap (λ (o : AmoOp). amo_of o x y) (sym c.in-Max.is))

pub returns-in-Minu-clause-made : goal.returns-in-Minu-clause-made
returns-in-Minu-clause-made g c =
    let old = c.args.pool.now in
    let a = c.args.old.number in
    let b = c.args.word.number in
    by_values c.first_where-in-Minu.result old c.first_where-in-Minu.new.pool a b 32 (λ x y. cond (nat_eq (bin_value op.Ult (bits 32 x) (bits 32 y)) 1) x y) (λ x y. amo_of c.args.op x y)
    (bounded old a 32 c.width-old_width.result c.requires.old c.width-old_width.ensures.width c.width-old_width.ensures.below)
    (bounded old b 32 c.width-word_width.result c.requires.word c.width-word_width.ensures.width c.width-word_width.ensures.below)
    c.first_where-in-Minu.ensures.made (λ x y hx hy. least x y ∙ ap (λ (o : AmoOp). amo_of o x y) (sym c.in-Minu.is))

pub returns-in-Maxu-clause-made : goal.returns-in-Maxu-clause-made
returns-in-Maxu-clause-made g c =
    let old = c.args.pool.now in
    let a = c.args.old.number in
    let b = c.args.word.number in
    by_values c.second_where-in-Maxu.result old c.second_where-in-Maxu.new.pool a b 32 (λ x y. cond (nat_eq (bin_value op.Ult (bits 32 x) (bits 32 y)) 1) y x) (λ x y. amo_of c.args.op x y)
    (bounded old a 32 c.width-old_width.result c.requires.old c.width-old_width.ensures.width c.width-old_width.ensures.below)
    (bounded old b 32 c.width-word_width.result c.requires.word c.width-word_width.ensures.width c.width-word_width.ensures.below)
    c.second_where-in-Maxu.ensures.made (λ x y hx hy. greatest x y ∙ ap (λ (o : AmoOp). amo_of o x y) (sym c.in-Maxu.is))

pub returns-in-Swap-clause-made : goal.returns-in-Swap-clause-made
returns-in-Swap-clause-made g c =
    let old = c.args.pool.now in
    let a = c.args.old.number in
    let b = c.args.word.number in
    reworded old old (a ∷ b ∷ []) 32 (λ w. value_at w old b) (λ w. amo_of c.args.op (value_at w old a) (value_at w old b)) c.taken_over.result.number c.taken_over.ensures
    (λ w. swapped (value_at w old a) (value_at w old b) ∙ ap (λ (o : AmoOp). amo_of o (value_at w old a) (value_at w old b)) (sym c.in-Swap.is))

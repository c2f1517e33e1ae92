use Rattle.std.proofs.Common.{◌∷◌, []}
use Rattle.std.proofs.lemmas.Result.{IfOk-weaker}
use Rattle.bv_terms.specs.BitVectors.{bin_value, bin_width, bits}
use Rattle.bv_terms.specs.Values.{Assignment, value_at}
use Rattle.step_terms.proofs.Making.{of_zero_extended}
use Rattle.step_terms.proofs.word.compared.Goals as goal

pub returns-clause-made : goal.returns-clause-made
returns-clause-made g c =
    let old = c.args.pool.now in
    let a = c.args.left.number in
    let b = c.args.right.number in
    let value = λ (w : Assignment). bin_value c.args.op (bits 32 (value_at w old a)) (bits 32 (value_at w old b)) in
    IfOk-weaker c.zero_extended.result _ _
    (λ id h. of_zero_extended old c.of_words.new.pool c.zero_extended.new.pool (a ∷ b ∷ []) c.in_ok-test.test.number (bin_width c.args.op 32 32) 32 value id.number c.in_ok-test.ensures.made h) c.zero_extended.ensures.term

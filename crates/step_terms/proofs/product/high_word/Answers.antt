use Rattle.std.proofs.Common.{◌*◌, ◌%◌, ◌^◌, ◌∷◌, []}
use Rattle.std.proofs.lemmas.Result.{IfOk-weaker}
use Rattle.bv_terms.specs.declared.node.BinOp.TheVariants as op
use Rattle.bv_terms.specs.Values.{value_at}
use Rattle.step_terms.proofs.Making.{first_part, second_part, of_operation, of_part}
use Rattle.step_terms.proofs.product.high_word.Goals as goal

pub returns-clause-made : goal.returns-clause-made
returns-clause-made g c =
    let old = c.args.pool.now in
    let mid = c.operation.new.pool in
    let a = c.args.left.number in
    let b = c.args.right.number in
    let product = c.in_ok-product.product.number in
    IfOk-weaker c.part.result _ _
    (λ id h. of_part old mid c.part.new.pool (a ∷ b ∷ []) product 64 63 32 (λ w. value_at w old a * value_at w old b % 2 ^ 64) id.number
    (of_operation old old mid (a ∷ b ∷ []) op.Mul a b 64 64 (λ w. value_at w old a) (λ w. value_at w old b) product (first_part old a (b ∷ []) 64 c.requires.left) (second_part old a b 64 c.requires.right) c.in_ok-product.ensures.term)
    h) c.part.ensures.term

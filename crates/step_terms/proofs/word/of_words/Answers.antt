use Rattle.std.proofs.Common.{◌∷◌, []}
use Rattle.std.proofs.lemmas.Result.{IfOk-weaker}
use Rattle.bv_terms.specs.Values.{value_at}
use Rattle.step_terms.proofs.Making.{first_part, second_part, of_operation}
use Rattle.step_terms.proofs.word.of_words.Goals as goal

pub returns-clause-made : goal.returns-clause-made
returns-clause-made g c =
    let old = c.args.pool.now in
    let new = c.operation.new.pool in
    let a = c.args.left.number in
    let b = c.args.right.number in
    IfOk-weaker c.operation.result _ _
    (λ id h. of_operation old old new (a ∷ b ∷ []) c.args.op a b 32 32 (λ w. value_at w old a) (λ w. value_at w old b) id.number (first_part old a (b ∷ []) 32 c.requires.left) (second_part old a b 32 c.requires.right) h)
    c.operation.ensures.term

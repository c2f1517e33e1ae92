use Rattle.std.proofs.Common.{ℕ, ◌∷◌, []}
use Rattle.std.proofs.lemmas.Result.{IfOk-weaker}
use Rattle.bv_terms.specs.declared.node.BinOp.TheVariants as op
use Rattle.bv_terms.specs.Values.{Assignment, value_at}
use Rattle.step_terms.proofs.Making.{first_stays, made_constant, of_operation}
use Rattle.step_terms.proofs.word.equals.Goals as goal

pub returns-clause-made : goal.returns-clause-made
returns-clause-made g c =
    let old = c.args.pool.now in
    let mid = c.word.new.pool in
    let a = c.args.word.number in
    let y = c.in_ok-number.number.number in
    let number : Assignment → ℕ = λ w. c.args.number in
    IfOk-weaker c.operation.result _ _
    (λ id h. of_operation old mid c.operation.new.pool (a ∷ []) op.Eq a y 32 32 (λ w. value_at w old a) number id.number (first_stays old mid a [] 32 c.word.ensures.grows c.requires)
    (made_constant old old mid (a ∷ []) 32 number y c.in_ok-number.ensures.made) h) c.operation.ensures.term

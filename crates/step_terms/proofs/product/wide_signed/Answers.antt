use Rattle.std.proofs.Common.{[]}
use Rattle.std.proofs.lemmas.Result.{IfOk-weaker}
use Rattle.bv_terms.specs.Values.{value_at}
use Rattle.step_terms.proofs.Making.{first_part, of_sign_extended}
use Rattle.step_terms.proofs.product.wide_signed.Goals as goal

pub returns-clause-made : goal.returns-clause-made
returns-clause-made c =
    let old = c.args.pool.now in
    let a = c.args.word.number in
    IfOk-weaker c.sign_extended.result _ _
    (λ id h. of_sign_extended old old c.sign_extended.new.pool _ a 32 64 (λ w. value_at w old a) id.number (first_part old a [] 32 c.requires) h) c.sign_extended.ensures.term

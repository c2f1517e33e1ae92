use Rattle.std.proofs.Common.{refl}
use Rattle.std.proofs.lemmas.Result.{IfOk-weaker}
use Rattle.step_terms.proofs.Loading.{only_two, two_signed}
use Rattle.step_terms.proofs.memory.signed_half.Goals as goal

pub returns-clause-made : goal.returns-clause-made
returns-clause-made g c =
    let old = c.args.pool.now in
    let ids = c.args.bytes.now in
    IfOk-weaker c.sign_extended.result _ _
    (λ id h. two_signed old c.half.new.pool c.sign_extended.new.pool ids _ _ c.in_ok-half.half.number id.number _ _ (only_two ids _ _ c.requires.two) refl refl c.in_ok-half.ensures.made h) c.sign_extended.ensures.term

use Rattle.std.proofs.Common.{arith, refl}
use Rattle.bv_terms.specs.declared.node.TermId.{TermId}
use Rattle.std.proofs.lemmas.Result.{IfOk-weaker}
use Rattle.step_terms.proofs.Loading.{only_one, one_signed}
use Rattle.step_terms.proofs.memory.signed_byte.Goals as goal

pub returns-clause-made : goal.returns-clause-made
returns-clause-made c =
    let old = c.args.pool.now in
    let ids = c.args.bytes.now in
    let zero_term : TermId = record { number = 0 } in
    IfOk-weaker c.sign_extended.result _ _
    (λ id h. one_signed old c.sign_extended.new.pool ids _ id.number _ (only_one ids _ c.requires.one) refl (c.requires.bytes 0 zero_term (omega (arith, c.requires.one))) h) c.sign_extended.ensures.term

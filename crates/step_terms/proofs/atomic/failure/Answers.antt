use Rattle.std.proofs.Common.{◌-◌, ◌∷◌, []}
use Rattle.std.proofs.lemmas.Result.{IfOk-weaker}
use Rattle.bv_terms.specs.Values.{value_at}
use Rattle.step_terms.proofs.Making.{first_part, of_inverse, of_zero_extended}
use Rattle.step_terms.proofs.atomic.failure.Goals as goal

pub returns-clause-made : goal.returns-clause-made
returns-clause-made c =
    let old = c.args.pool.now in
    let mid = c.inverse.new.pool in
    let a = c.args.won.number in
    let lost = c.in_ok-lost.lost.number in
    IfOk-weaker c.zero_extended.result _ _
    (λ id h. of_zero_extended old mid c.zero_extended.new.pool (a ∷ []) lost 1 32 (λ w. 1 - value_at w old a) id.number (of_inverse old old mid (a ∷ []) a 1 (λ w. value_at w old a) lost (first_part old a [] 1 c.requires) c.in_ok-lost.ensures.term) h)
    c.zero_extended.ensures.term

use Rattle.std.proofs.Common.{◌∷◌, []}
use Rattle.std.proofs.lemmas.Result.{IfOk-weaker}
use Rattle.bv_terms.specs.Values.{value_at}
use Rattle.step_terms.specs.Division.{negated_if, sign}
use Rattle.step_terms.proofs.Making.{by_two, first_stays}
use Rattle.step_terms.proofs.division.magnitude.Goals as goal

pub returns-clause-made : goal.returns-clause-made
returns-clause-made c =
    let old = c.args.pool.now in
    let mid = c.sign.new.pool in
    let a = c.args.word.number in
    let s = c.in_ok-is_negative.is_negative.number in
    IfOk-weaker c.negated_if.result _ _
    (λ id h. by_two old mid c.negated_if.new.pool (a ∷ []) s a 1 32 32 (λ w. sign (value_at w old a)) (λ w. value_at w old a) (λ u v. negated_if u v) id.number
    c.in_ok-is_negative.ensures.made (first_stays old mid a [] 32 c.sign.ensures.grows c.requires) h) c.negated_if.ensures.made

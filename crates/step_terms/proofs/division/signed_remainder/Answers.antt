use Rattle.std.proofs.Common.{◌∷◌, []}
use Rattle.std.proofs.lemmas.Result.{IfOk-weaker}
use Rattle.bv_terms.specs.BitVectors.{bits, urem_value}
use Rattle.bv_terms.specs.Values.{Assignment, value_at}
use Rattle.step_terms.specs.Division.{magnitude, negated_if, sign}
use Rattle.step_terms.proofs.Making.{by_one, by_two, first_stays, later}
use Rattle.step_terms.proofs.division.signed_remainder.Goals as goal

pub returns-clause-made : goal.returns-clause-made
returns-clause-made g c =
    let old = c.args.pool.now in
    let one = c.remainder.new.pool in
    let two = c.sign.new.pool in
    let a = c.args.left.number in
    let b = c.args.right.number in
    let parts = a ∷ b ∷ [] in
    let size = λ (w : Assignment). urem_value (bits 32 (magnitude (value_at w old a))) (bits 32 (magnitude (value_at w old b))) in
    let x = c.in_ok-size.size.number in
    let s = c.in_ok-is_negative.is_negative.number in
    let made_size = later old one two parts 32 size x c.sign.ensures.grows c.in_ok-size.ensures.made in
    let made_sign = by_one old one two parts a 32 1 (λ w. value_at w old a) (λ v. sign v) s (first_stays old one a (b ∷ []) 32 c.remainder.ensures.grows c.requires.left) c.in_ok-is_negative.ensures.made in
    IfOk-weaker c.negated_if.result _ _
    (λ id h. by_two old two c.negated_if.new.pool parts s x 1 32 32 (λ w. sign (value_at w old a)) size (λ u v. negated_if u v) id.number made_sign made_size h) c.negated_if.ensures.made

use Rattle.std.proofs.Common.{◌-◌, ◌^◌, ◌∷◌, [], cond, nat_eq}
use Rattle.std.proofs.lemmas.Result.{IfOk-weaker}
use Rattle.bv_terms.specs.BitVectors.{bit_of}
use Rattle.bv_terms.specs.Values.{Assignment, value_at}
use Rattle.step_terms.specs.Division.{signed_quotient}
use Rattle.step_terms.proofs.Making.{by_one, grows_on, later, made_constant, of_choice, reworded, second_stays}
use Rattle.step_terms.proofs.Words.{by_bit}
use Rattle.step_terms.proofs.division.divided.Goals as goal

pub returns-clause-made : goal.returns-clause-made
returns-clause-made g c =
    let old = c.args.pool.now in
    let one = c.signed_quotient.new.pool in
    let two = c.equals.new.pool in
    let three = c.constant.new.pool in
    let a = c.args.left.number in
    let b = c.args.right.number in
    let parts = a ∷ b ∷ [] in
    let q = c.in_ok-quotient.quotient.number in
    let z = c.in_ok-by_zero.by_zero.number in
    let ones = c.in_ok-all_ones.all_ones.number in
    let value = λ (w : Assignment). signed_quotient (value_at w old a) (value_at w old b) in
    let test = λ (w : Assignment). bit_of (nat_eq (value_at w old b) 0) in
    let made_q = later old one three parts 32 value q (grows_on one two three c.equals.ensures.grows c.constant.ensures.grows) c.in_ok-quotient.ensures.made in
    let made_z = later old two three parts 1 test z c.constant.ensures.grows
    (by_one old one two parts b 32 1 (λ w. value_at w old b) (λ v. bit_of (nat_eq v 0)) z (second_stays old one a b 32 c.signed_quotient.ensures.grows c.requires.right) c.in_ok-by_zero.ensures.made) in
    let made_ones = made_constant old two three parts 32 (λ w. 2 ^ 32 - 1) ones c.in_ok-all_ones.ensures.made in
    IfOk-weaker c.choice.result _ _
    (λ id h. reworded old c.choice.new.pool parts 32 (λ w. cond (nat_eq (test w) 1) (2 ^ 32 - 1) (value w)) (λ w. cond (nat_eq (value_at w old b) 0) (2 ^ 32 - 1) (value w)) id.number
    (of_choice old three c.choice.new.pool parts z ones q 1 32 test (λ w. 2 ^ 32 - 1) value id.number made_z made_ones made_q h)
    (λ w. by_bit (nat_eq (value_at w old b) 0) (2 ^ 32 - 1) (value w))) c.choice.ensures.term

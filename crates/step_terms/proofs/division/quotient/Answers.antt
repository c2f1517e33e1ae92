use Rattle.std.proofs.Common.{◌∷◌, []}
use Rattle.std.proofs.lemmas.Result.{IfOk-weaker}
use Rattle.bv_terms.specs.BitVectors.{bits, udiv_value}
use Rattle.bv_terms.specs.Values.{Assignment, value_at}
use Rattle.step_terms.specs.Division.{magnitude}
use Rattle.step_terms.proofs.Making.{by_one, by_two, later, made_first, second_stays}
use Rattle.step_terms.proofs.division.quotient.Goals as goal

pub returns-clause-made : goal.returns-clause-made
returns-clause-made g c =
    let old = c.args.pool.now in
    let one = c.magnitude.new.pool in
    let two = c.magnitude-2.new.pool in
    let a = c.args.left.number in
    let b = c.args.right.number in
    let x = c.in_ok-left.left.number in
    let y = c.in_ok-right.right.number in
    let parts = a ∷ b ∷ [] in
    let left = λ (w : Assignment). magnitude (value_at w old a) in
    let right = λ (w : Assignment). magnitude (value_at w old b) in
    let made_left = later old one two parts 32 left x c.magnitude-2.ensures.grows (made_first old one a b 32 left x c.in_ok-left.ensures.made) in
    let made_right = by_one old one two parts b 32 32 (λ w. value_at w old b) (λ v. magnitude v) y (second_stays old one a b 32 c.magnitude.ensures.grows c.requires.right) c.in_ok-right.ensures.made in
    IfOk-weaker c.of_words.result _ _
    (λ id h. by_two old two c.of_words.new.pool parts x y 32 32 32 left right (λ u v. udiv_value (bits 32 u) (bits 32 v)) id.number made_left made_right h) c.of_words.ensures.made

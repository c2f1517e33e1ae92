use Rattle.std.proofs.Common.{◌∷◌, []}
use Rattle.std.proofs.lemmas.Result.{IfOk-weaker}
use Rattle.bv_terms.specs.Values.{Assignment, value_at}
use Rattle.step_terms.specs.Division.{extended, high_product}
use Rattle.step_terms.proofs.Making.{by_one, by_two, later, made_first, second_stays}
use Rattle.step_terms.proofs.product.high_mixed.Goals as goal

pub returns-clause-made : goal.returns-clause-made
returns-clause-made g c =
    let old = c.args.pool.now in
    let one = c.wide_signed.new.pool in
    let two = c.wide.new.pool in
    let a = c.args.left.number in
    let b = c.args.right.number in
    let x = c.in_ok-left.left.number in
    let y = c.in_ok-right.right.number in
    let left = λ (w : Assignment). extended (value_at w old a) in
    let right = λ (w : Assignment). value_at w old b in
    let made_left = later old one two (a ∷ b ∷ []) 64 left x c.wide.ensures.grows (made_first old one a b 64 left x c.in_ok-left.ensures.made) in
    let made_right = by_one old one two (a ∷ b ∷ []) b 32 64 (λ w. value_at w old b) (λ v. v) y (second_stays old one a b 32 c.wide_signed.ensures.grows c.requires.right) c.in_ok-right.ensures.made in
    IfOk-weaker c.high_word.result _ _
    (λ id h. by_two old two c.high_word.new.pool (a ∷ b ∷ []) x y 64 64 32 left right (λ u v. high_product u v) id.number made_left made_right h) c.high_word.ensures.made

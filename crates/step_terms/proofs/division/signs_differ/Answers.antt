use Rattle.std.proofs.Common.{◌∷◌, []}
use Rattle.std.proofs.lemmas.Result.{IfOk-weaker}
use Rattle.bv_terms.specs.declared.node.BinOp.TheVariants as op
use Rattle.bv_terms.specs.Values.{Assignment, value_at}
use Rattle.step_terms.specs.Division.{sign}
use Rattle.step_terms.proofs.Making.{by_one, later, made_first, of_operation, second_stays}
use Rattle.step_terms.proofs.division.signs_differ.Goals as goal

pub returns-clause-made : goal.returns-clause-made
returns-clause-made g c =
    let old = c.args.pool.now in
    let one = c.sign.new.pool in
    let two = c.sign-2.new.pool in
    let a = c.args.left.number in
    let b = c.args.right.number in
    let x = c.in_ok-left.left.number in
    let y = c.in_ok-right.right.number in
    let parts = a ∷ b ∷ [] in
    let left = λ (w : Assignment). sign (value_at w old a) in
    let right = λ (w : Assignment). sign (value_at w old b) in
    let made_left = later old one two parts 1 left x c.sign-2.ensures.grows (made_first old one a b 1 left x c.in_ok-left.ensures.made) in
    let made_right = by_one old one two parts b 32 1 (λ w. value_at w old b) (λ v. sign v) y (second_stays old one a b 32 c.sign.ensures.grows c.requires.right) c.in_ok-right.ensures.made in
    IfOk-weaker c.operation.result _ _
    (λ id h. of_operation old two c.operation.new.pool parts op.Xor x y 1 1 left right id.number made_left made_right h) c.operation.ensures.term

use Rattle.std.proofs.Common.{◌≡◌, ℕ, ◌+◌, ◌*◌, ◌/◌, ◌%◌, ◌^◌, ◌<◌, ◌∷◌, [], arith}
use Rattle.std.proofs.lemmas.Result.{IfOk-weaker}
use Rattle.bv_terms.specs.declared.node.BinOp.TheVariants as op
use Rattle.bv_terms.specs.Values.{Assignment, value_at}
use Rattle.step_terms.proofs.Making.{bounded, first_part, later, made_constant, of_operation, of_part, reworded}
use Rattle.step_terms.proofs.address.even.Goals as goal

cleared : (v : ℕ) → v < 2 ^ 32 → v / 2 ^ 1 % 2 ^ 31 * 2 ^ 1 + 0 ≡ v / 2 * 2
cleared v h = omega (arith, h)

pub returns-clause-made : goal.returns-clause-made
returns-clause-made g c =
    let old = c.args.pool.now in
    let one = c.part.new.pool in
    let two = c.constant.new.pool in
    let new = c.operation.new.pool in
    let a = c.args.word.number in
    let x = c.in_ok-high.high.number in
    let y = c.in_ok-zero.zero.number in
    let high = λ (w : Assignment). value_at w old a / 2 ^ 1 % 2 ^ 31 in
    let zero : Assignment → ℕ = λ w. 0 in
    let below = bounded old a 32 c.width-width.result c.requires c.width-width.ensures.width c.width-width.ensures.below in
    IfOk-weaker c.operation.result _ _
    (λ id h. reworded old new (a ∷ []) 32 (λ w. high w * 2 ^ 1 + 0) (λ w. value_at w old a / 2 * 2) id.number
    (of_operation old two new (a ∷ []) op.Concat x y 31 1 high zero id.number
    (later old one two (a ∷ []) 31 high x c.constant.ensures.grows (of_part old old one (a ∷ []) a 32 31 1 (λ w. value_at w old a) x (first_part old a [] 32 c.requires) c.in_ok-high.ensures.term))
    (made_constant old one two (a ∷ []) 1 zero y c.in_ok-zero.ensures.made) h) (λ w. cleared (value_at w old a) (below w))) c.operation.ensures.term

use Rattle.std.proofs.Common.{◌≡◌, ℕ, ◌+◌, ◌*◌, ◌^◌, ◌∷◌, [], arith}
use Rattle.std.proofs.lemmas.Result.{IfOk-weaker}
use Rattle.bv_terms.specs.Values.{value_at}
use Rattle.step_terms.proofs.Making.{reworded}
use Rattle.step_terms.proofs.Loading.{concat_two}
use Rattle.step_terms.proofs.memory.whole.Goals as goal

turned : (a b : ℕ) → b * 2 ^ 16 + a ≡ a + 2 ^ 16 * b
turned a b = omega arith

pub returns-clause-made : goal.returns-clause-made
returns-clause-made g c =
    let old = c.args.pool.now in
    let new = c.operation.new.pool in
    let low = c.args.low.number in
    let high = c.args.high.number in
    IfOk-weaker c.operation.result _ _
    (λ id h. reworded old new (low ∷ high ∷ []) 32 (λ w. value_at w old high * 2 ^ 16 + value_at w old low) (λ w. value_at w old low + 2 ^ 16 * value_at w old high) id.number
    (concat_two old new low high 16 id.number c.requires.low c.requires.high h) (λ w. turned (value_at w old low) (value_at w old high))) c.operation.ensures.term

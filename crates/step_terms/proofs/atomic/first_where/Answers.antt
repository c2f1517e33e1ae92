use Rattle.std.proofs.Common.{◌∷◌, [], subst}
use Rattle.std.proofs.lemmas.Result.{IfOk-weaker}
use Rattle.bv_terms.specs.BitVectors.{bin_value, bits}
use Rattle.bv_terms.specs.Values.{Assignment, value_at}
use Rattle.step_terms.specs.Made.{IsMade}
use Rattle.step_terms.proofs.Making.{first_stays, of_choice, second_stays}
use Rattle.step_terms.proofs.atomic.first_where.Goals as goal

pub returns-clause-made : goal.returns-clause-made
returns-clause-made g c =
    let old = c.args.pool.now in
    let mid = c.of_words.new.pool in
    let a = c.args.left.number in
    let b = c.args.right.number in
    let test = c.in_ok-test.test.number in
    let value = λ (w : Assignment). bin_value c.args.op (bits 32 (value_at w old a)) (bits 32 (value_at w old b)) in
    IfOk-weaker c.choice.result _ _
    (λ id h. of_choice old mid c.choice.new.pool (a ∷ b ∷ []) test a b 1 32 value (λ w. value_at w old a) (λ w. value_at w old b) id.number
    (subst (λ k. IsMade old mid (a ∷ b ∷ []) k value test) c.requires.bit c.in_ok-test.ensures.made) (first_stays old mid a (b ∷ []) 32 c.of_words.ensures.grows c.requires.left) (second_stays old mid a b 32 c.of_words.ensures.grows c.requires.right) h) c.choice.ensures.term

use Rattle.std.proofs.Common.{◌-◌, ◌%◌, ◌^◌, ◌∷◌, []}
use Rattle.std.proofs.lemmas.Result.{IfOk-weaker}
use Rattle.bv_terms.specs.Values.{Assignment, value_at}
use Rattle.step_terms.proofs.Making.{first_stays, second_part, second_stays, of_choice, of_negative}
use Rattle.step_terms.proofs.division.negated_if.Goals as goal

pub returns-clause-made : goal.returns-clause-made
returns-clause-made c =
    let old = c.args.pool.now in
    let mid = c.negative.new.pool in
    let s = c.args.when.number in
    let a = c.args.word.number in
    let n = c.in_ok-negated.negated.number in
    let parts = s ∷ a ∷ [] in
    let value = λ (w : Assignment). value_at w old a in
    IfOk-weaker c.choice.result _ _
    (λ id h. of_choice old mid c.choice.new.pool parts s n a 1 32 (λ w. value_at w old s) (λ w. (2 ^ 32 - value_at w old a) % 2 ^ 32) value id.number
    (first_stays old mid s (a ∷ []) 1 c.negative.ensures.grows c.requires.when)
    (of_negative old old mid parts a 32 value n (second_part old s a 32 c.requires.word) c.in_ok-negated.ensures.term)
    (second_stays old mid s a 32 c.negative.ensures.grows c.requires.word) h) c.choice.ensures.term

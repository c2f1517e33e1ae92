use Rattle.std.proofs.Common.{◌%◌, ◌^◌, [], ◌∷◌, subst}
use Rattle.std.proofs.lemmas.Result.{IfOk-weaker}
use Rattle.bv_terms.specs.BitVectors.{bin_value, bits}
use Rattle.bv_terms.specs.Values.{Assignment, value_at}
use Rattle.step_terms.specs.Made.{IsMade}
use Rattle.step_terms.proofs.Making.{first_stays, made_second, of_operation}
use Rattle.step_terms.proofs.shift.shifted.Goals as goal

pub returns-clause-made : goal.returns-clause-made
returns-clause-made g c =
    let old = c.args.pool.now in
    let mid = c.shift_amount.new.pool in
    let new = c.operation.new.pool in
    let a = c.args.word.number in
    let b = c.args.by.number in
    let amount = c.in_ok-amount.amount.number in
    let value = λ (w : Assignment). bin_value c.args.op (bits 32 (value_at w old a)) (bits 32 (value_at w old b % 2 ^ 5)) in
    IfOk-weaker c.operation.result _ _
    (λ id h. subst (λ k. IsMade old new (a ∷ b ∷ []) k value id.number) c.requires.shift
    (of_operation old mid new (a ∷ b ∷ []) c.args.op a amount 32 32 (λ w. value_at w old a) (λ w. value_at w old b % 2 ^ 5) id.number (first_stays old mid a (b ∷ []) 32 c.shift_amount.ensures.grows c.requires.word)
    (made_second old mid a b 32 (λ w. value_at w old b % 2 ^ 5) amount c.in_ok-amount.ensures.made) h)) c.operation.ensures.term

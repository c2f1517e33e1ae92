use Rattle.std.proofs.Common.{◌*◌, ◌/◌, ◌∷◌, [], subst, w32}
use Rattle.std.proofs.lemmas.Int.{to_z-of_z}
use Rattle.step_terms.specs.Made.{IsMade}
use Rattle.std.proofs.lemmas.Result.{IfOk-weaker}
use Rattle.bv_terms.specs.Values.{value_at}
use Rattle.rv_model.specs.Values.{plus_offset}
use Rattle.step_terms.proofs.Making.{by_one}
use Rattle.step_terms.proofs.address.jump_target.Goals as goal

pub returns-clause-made : goal.returns-clause-made
returns-clause-made g c =
    let old = c.args.pool.now in
    let a = c.args.word.number in
    IfOk-weaker c.even.result _ _
    (λ id h. by_one old c.offset_by.new.pool c.even.new.pool (a ∷ []) c.in_ok-sum.sum.number 32 32 (λ w. plus_offset (value_at w old a) c.args.offset) (λ v. v / 2 * 2) id.number (subst (λ z. IsMade old c.offset_by.new.pool (a ∷ []) 32 (λ w. plus_offset (value_at w old a) z) c.in_ok-sum.sum.number) (to_z-of_z w32 c.args.offset c.ranges.offset) c.in_ok-sum.ensures.made) h) c.even.ensures.made

use Rattle.std.proofs.Common.{◌∷◌, [], subst, w32}
use Rattle.std.proofs.lemmas.Int.{to_z-of_z}
use Rattle.std.proofs.lemmas.Result.{IfOk-weaker}
use Rattle.bv_terms.specs.Values.{Assignment, value_at}
use Rattle.rv32_decode.specs.declared.instr.AluOp.{AluOp}
use Rattle.rv_model.specs.Values.{alu_of, imm_of, word_of}
use Rattle.step_terms.specs.Made.{IsMade}
use Rattle.step_terms.proofs.Making.{by_two, first_stays, made_constant}
use Rattle.step_terms.proofs.alu.imm_alu.Goals as goal

pub returns-clause-made : goal.returns-clause-made
unfolding imm_of
returns-clause-made g c =
    let old = c.args.pool.now in
    let mid = c.signed_constant.new.pool in
    let new = c.alu.new.pool in
    let a = c.args.left.number in
    let y = c.in_ok-right.right.number in
    let number = λ (w : Assignment). word_of c.args.imm in
    IfOk-weaker c.alu.result _ _
    (λ id h. subst (λ (o : AluOp). IsMade old new (a ∷ []) 32 (λ w. alu_of o (value_at w old a) (word_of c.args.imm)) id.number) c.operation.ensures
    (by_two old mid new (a ∷ []) a y 32 32 32 (λ w. value_at w old a) number (λ u v. alu_of c.operation.result u v) id.number (first_stays old mid a [] 32 c.signed_constant.ensures.grows c.requires)
    (made_constant old old mid (a ∷ []) 32 number y (subst (λ z. IsMade old mid [] 32 (λ w. word_of z) y) (to_z-of_z w32 c.args.imm c.ranges.imm) c.in_ok-right.ensures.made)) h)) c.alu.ensures.made

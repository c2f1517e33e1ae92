use Rattle.std.proofs.Common.{◌≡◌, ◌*◌, ◌/◌, subst, rules, w32, SFits}
use Rattle.std.specs.Prelude.{ℤ}
use Rattle.std.proofs.lemmas.Int.{to_z-of_z}
use Rattle.std.proofs.lemmas.Result.{IfOk-weaker}
use Rattle.rv_model.specs.Thread.{register}
use Rattle.rv_model.specs.Values.{plus_offset, taken_of}
use Rattle.thread_terms.specs.Standing.{Says}
use Rattle.access_terms.proofs.Silent.{goes_branch, goes_jump, is_quiet, quiet_constrains}
use Rattle.access_terms.proofs.alone.goes.Goals as goal

pub returns-in-Branch-clause-constrains : goal.returns-in-Branch-clause-constrains
returns-in-Branch-clause-constrains g c =
    let old = c.args.pool.now in
    let new = c.branch-pool.new.pool in
    let before = c.args.registers.now in
    let op = c.in-Branch.op in
    let rs1 = c.in-Branch.rs1 in
    let rs2 = c.in-Branch.rs2 in
    let shown = c.args.shown.now in
    IfOk-weaker c.branch-pool.result _ _
    (λ id h. goes_branch old new before c.args.place.now.pc c.args.place.now.instr op rs1 rs2 c.in-Branch.offset shown id.number c.in-Branch.is c.requires.leads
    (subst (λ t. Says old new before id.number (λ local. taken_of op (register local rs1) (register local rs2) ≡ t)) c.is_taken.ensures h)) c.branch-pool.ensures.says

pub returns-in-Jalr-clause-constrains : goal.returns-in-Jalr-clause-constrains
returns-in-Jalr-clause-constrains g c =
    let old = c.args.pool.now in
    let new = c.jump.new.pool in
    let before = c.args.registers.now in
    let rs1 = c.in-Jalr.rs1 in
    let offset = c.in-Jalr.offset in
    let shown = c.args.shown.now in
    let fits : SFits w32 offset = search rules in
    IfOk-weaker c.jump.result _ _
    (λ id h. goes_jump old new before c.args.place.now.pc c.args.place.now.instr c.in-Jalr.rd rs1 offset shown id.number c.in-Jalr.is c.requires.leads
    (subst (λ t. Says old new before id.number (λ local. plus_offset (register local rs1) offset / 2 * 2 ≡ t)) c.target.ensures
    (subst (λ (z : ℤ). Says old new before id.number (λ local. plus_offset (register local rs1) z / 2 * 2 ≡ c.target.result)) (to_z-of_z w32 offset fits) h))) c.jump.ensures.says

pub returns-in_default : goal.returns-in_default
returns-in_default g c = record {
  constrains = IfOk-weaker c.constant_bit.result _ _
      (λ id h. quiet_constrains c.args.pool.now c.constant_bit.new.pool c.args.registers.now c.args.place.now.pc c.args.place.now.instr c.args.shown.now id.number c.requires.alone
      (is_quiet c.args.place.now.instr c.in_default.not-Jalr c.in_default.not-Branch) c.requires.leads h) c.constant_bit.ensures.made;
  grows = c.constant_bit.ensures.grows;
}

use Rattle.std.proofs.Common.{◌+◌, ◌%◌, ◌^◌, subst, sym, rules, of_z, to_z, w32, SFits}
use Rattle.std.specs.Prelude.{ℤ}
use Rattle.std.proofs.lemmas.Int.{to_z-of_z}
use Rattle.std.proofs.lemmas.Result.{on_ok_weaker}
use Rattle.rv32_decode.specs.declared.instr.Instr.{Instr}
use Rattle.rv_model.specs.Thread.{register, word_after}
use Rattle.rv_model.specs.Values.{alu_of, imm_of}
use Rattle.step_terms.proofs.Making.{grows_same}
use Rattle.thread_terms.specs.Standing.{Writes}
use Rattle.access_terms.specs.Alone.{GoesOn}
use Rattle.access_terms.proofs.Silent.{goes_on_auipc, goes_on_imm, goes_on_jal, goes_on_jalr, goes_on_lui, goes_on_op, goes_on_other}
use Rattle.access_terms.proofs.alone.go_on.Goals as goal

pub returns-in-Lui-clause-goes_on : goal.returns-in-Lui-clause-goes_on
returns-in-Lui-clause-goes_on g c =
    let old = c.args.pool.now in
    let new = c.number.new.pool in
    let before = c.args.registers.now in
    let after = c.number.new.registers in
    let pc = c.args.place.now.pc in
    on_ok_weaker c.number.result
    (λ (h : Writes old new before after c.in-Lui.rd (λ _. c.in-Lui.imm)). subst (λ (i : Instr). GoesOn old new before after pc i) (sym c.in-Lui.is) (goes_on_lui old new before after pc c.in-Lui.rd c.in-Lui.imm h)) c.number.ensures.writes

pub returns-in-Auipc-clause-goes_on : goal.returns-in-Auipc-clause-goes_on
returns-in-Auipc-clause-goes_on g c =
    let old = c.args.pool.now in
    let new = c.number-in-Auipc.new.pool in
    let before = c.args.registers.now in
    let after = c.number-in-Auipc.new.registers in
    let pc = c.args.place.now.pc in
    on_ok_weaker c.number-in-Auipc.result
    (λ (h : Writes old new before after c.in-Auipc.rd (λ _. (pc + c.in-Auipc.imm) % 2 ^ 32)). subst (λ (i : Instr). GoesOn old new before after pc i) (sym c.in-Auipc.is) (goes_on_auipc old new before after pc c.in-Auipc.rd c.in-Auipc.imm h)) c.number-in-Auipc.ensures.writes

pub returns-in-Jal-clause-goes_on : goal.returns-in-Jal-clause-goes_on
returns-in-Jal-clause-goes_on g c =
    let old = c.args.pool.now in
    let new = c.number-in-Jal.new.pool in
    let before = c.args.registers.now in
    let after = c.number-in-Jal.new.registers in
    let pc = c.args.place.now.pc in
    on_ok_weaker c.number-in-Jal.result
    (λ (h : Writes old new before after c.in-Jal.rd (λ _. word_after pc)). subst (λ (i : Instr). GoesOn old new before after pc i) (sym c.in-Jal.is) (goes_on_jal old new before after pc c.in-Jal.rd c.in-Jal.offset h)) c.number-in-Jal.ensures.writes

pub returns-in-Jalr-clause-goes_on : goal.returns-in-Jalr-clause-goes_on
returns-in-Jalr-clause-goes_on g c =
    let old = c.args.pool.now in
    let new = c.number-in-Jalr.new.pool in
    let before = c.args.registers.now in
    let after = c.number-in-Jalr.new.registers in
    let pc = c.args.place.now.pc in
    on_ok_weaker c.number-in-Jalr.result
    (λ (h : Writes old new before after c.in-Jalr.rd (λ _. word_after pc)). subst (λ (i : Instr). GoesOn old new before after pc i) (sym c.in-Jalr.is) (goes_on_jalr old new before after pc c.in-Jalr.rd c.in-Jalr.rs1 c.in-Jalr.offset h)) c.number-in-Jalr.ensures.writes

pub returns-in-Imm-clause-goes_on : goal.returns-in-Imm-clause-goes_on
returns-in-Imm-clause-goes_on g c =
    let old = c.args.pool.now in
    let new = c.immediate_operation.new.pool in
    let before = c.args.registers.now in
    let after = c.immediate_operation.new.registers in
    let pc = c.args.place.now.pc in
    let op = c.in-Imm.op in
    let rs1 = c.in-Imm.rs1 in
    let imm = c.in-Imm.imm in
    let rd = c.in-Imm.rd in
    let fits : SFits w32 imm = search rules in
    on_ok_weaker c.immediate_operation.result
    (λ (h : Writes old new before after rd (λ local. imm_of op (register local rs1) (to_z w32 (of_z w32 imm)))). subst (λ (i : Instr). GoesOn old new before after pc i) (sym c.in-Imm.is)
    (goes_on_imm old new before after pc op rd rs1 imm (subst (λ (z : ℤ). Writes old new before after rd (λ local. imm_of op (register local rs1) z)) (to_z-of_z w32 imm fits) h))) c.immediate_operation.ensures.writes

pub returns-in-Op-clause-goes_on : goal.returns-in-Op-clause-goes_on
returns-in-Op-clause-goes_on g c =
    let old = c.args.pool.now in
    let new = c.register_operation.new.pool in
    let before = c.args.registers.now in
    let after = c.register_operation.new.registers in
    let pc = c.args.place.now.pc in
    let op = c.in-Op.op in
    let rs1 = c.in-Op.rs1 in
    let rs2 = c.in-Op.rs2 in
    on_ok_weaker c.register_operation.result
    (λ (h : Writes old new before after c.in-Op.rd (λ local. alu_of op (register local rs1) (register local rs2))). subst (λ (i : Instr). GoesOn old new before after pc i) (sym c.in-Op.is) (goes_on_op old new before after pc op c.in-Op.rd rs1 rs2 h)) c.register_operation.ensures.writes

pub returns-in_default : goal.returns-in_default
returns-in_default g c = record {
  goes_on = goes_on_other c.args.pool.now c.args.registers.now c.args.place.now.pc c.args.place.now.instr c.requires.alone
      c.in_default.not-Lui c.in_default.not-Auipc c.in_default.not-Jal c.in_default.not-Jalr c.in_default.not-Imm c.in_default.not-Op;
  registers = c.requires.registers;
  grows = grows_same c.args.pool.now;
}

use Rattle.std.proofs.Common.{◌∷◌, [], List, subst, sym, w32}
use Rattle.std.proofs.lemmas.Int.{to_z-of_z}
use Rattle.bv_terms.specs.declared.node.TermId.{TermId}
use Rattle.bv_terms.specs.Values.{value_at}
use Rattle.rv_model.specs.Thread.{register}
use Rattle.rv_model.specs.Values.{imm_of}
use Rattle.step_terms.specs.Made.{IsMade, IsTerm}
use Rattle.thread_terms.specs.Standing.{AreRegisters, Writes, term_of}
use Rattle.thread_terms.proofs.Standing.{registers_stay, registers_written, writes_of_one}
use Rattle.thread_terms.proofs.compute.immediate_operation.Goals as goal

pub imm_alu-requires : goal.imm_alu-requires
imm_alu-requires g c = subst (λ n. IsTerm c.args.pool.now 32 n) (sym c.read-left.ensures) (c.requires.registers.words c.args.rs1 c.requires.rs1)

pub returns-clause-writes : goal.returns-clause-writes
returns-clause-writes g c =
    let old = c.args.pool.now in
    let new = c.imm_alu.new.pool in
    let before = c.args.registers.now in
    let value = c.in_ok-value.value in
    let x = term_of before c.args.rs1 in
    let whole = subst (λ z. IsMade old new (c.read-left.result.number ∷ []) 32 (λ w. imm_of c.args.op (value_at w old c.read-left.result.number) z) value.number) (to_z-of_z w32 c.args.imm c.ranges.imm) c.in_ok-value.ensures.made in
    let made = subst (λ n. IsMade old new (n ∷ []) 32 (λ w. imm_of c.args.op (value_at w old n) c.args.imm) value.number) c.read-left.ensures whole in
    subst (λ (after : List TermId). Writes old new before after c.args.rd (λ local. imm_of c.args.op (register local c.args.rs1) c.args.imm)) (sym c.write.ensures)
    (writes_of_one old new before c.args.rd c.args.rs1 value (λ u. imm_of c.args.op u c.args.imm) c.imm_alu.ensures.grows c.requires.registers c.requires.rd c.requires.rs1 made)

pub returns-clause-registers : goal.returns-clause-registers
returns-clause-registers g c =
    let new = c.imm_alu.new.pool in
    subst (λ (after : List TermId). AreRegisters new after) (sym c.write.ensures)
    (registers_written new c.args.registers.now c.args.rd c.in_ok-value.value (registers_stay c.args.pool.now new c.args.registers.now c.imm_alu.ensures.grows c.requires.registers) c.in_ok-value.ensures.made.term c.requires.rd)

pub returns-in_err-value-clause-registers : goal.returns-in_err-value-clause-registers
returns-in_err-value-clause-registers g c = registers_stay c.args.pool.now c.imm_alu.new.pool c.args.registers.now c.imm_alu.ensures.grows c.requires.registers

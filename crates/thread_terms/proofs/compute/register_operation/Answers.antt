use Rattle.std.proofs.Common.{◌∷◌, [], List, subst, sym}
use Rattle.bv_terms.specs.declared.node.TermId.{TermId}
use Rattle.bv_terms.specs.Values.{value_at}
use Rattle.rv_model.specs.Thread.{register}
use Rattle.rv_model.specs.Values.{alu_of}
use Rattle.step_terms.specs.Made.{IsMade, IsTerm}
use Rattle.thread_terms.specs.Standing.{AreRegisters, Writes, term_of}
use Rattle.thread_terms.proofs.Standing.{registers_stay, registers_written, writes_of_two}
use Rattle.thread_terms.proofs.compute.register_operation.Goals as goal

pub alu-requires : goal.alu-requires
alu-requires g c =
    let old = c.args.pool.now in
    record {
      left = subst (λ n. IsTerm old 32 n) (sym c.read-left.ensures) (c.requires.registers.words c.args.rs1 c.requires.rs1);
      right = subst (λ n. IsTerm old 32 n) (sym c.read-right.ensures) (c.requires.registers.words c.args.rs2 c.requires.rs2);
    }

pub returns-clause-writes : goal.returns-clause-writes
returns-clause-writes g c =
    let old = c.args.pool.now in
    let new = c.alu.new.pool in
    let before = c.args.registers.now in
    let value = c.in_ok-value.value in
    let x = term_of before c.args.rs1 in
    let y = term_of before c.args.rs2 in
    let made = subst (λ n. IsMade old new (x ∷ n ∷ []) 32 (λ w. alu_of c.args.op (value_at w old x) (value_at w old n)) value.number) c.read-right.ensures
    (subst (λ n. IsMade old new (n ∷ c.read-right.result.number ∷ []) 32 (λ w. alu_of c.args.op (value_at w old n) (value_at w old c.read-right.result.number)) value.number) c.read-left.ensures c.in_ok-value.ensures.made) in
    subst (λ (after : List TermId). Writes old new before after c.args.rd (λ local. alu_of c.args.op (register local c.args.rs1) (register local c.args.rs2))) (sym c.write.ensures)
    (writes_of_two old new before c.args.rd c.args.rs1 c.args.rs2 value (λ u v. alu_of c.args.op u v) c.alu.ensures.grows c.requires.registers c.requires.rd c.requires.rs1 c.requires.rs2 made)

pub returns-clause-registers : goal.returns-clause-registers
returns-clause-registers g c =
    let new = c.alu.new.pool in
    subst (λ (after : List TermId). AreRegisters new after) (sym c.write.ensures)
    (registers_written new c.args.registers.now c.args.rd c.in_ok-value.value (registers_stay c.args.pool.now new c.args.registers.now c.alu.ensures.grows c.requires.registers) c.in_ok-value.ensures.made.term c.requires.rd)

pub returns-in_err-value-clause-registers : goal.returns-in_err-value-clause-registers
returns-in_err-value-clause-registers g c = registers_stay c.args.pool.now c.alu.new.pool c.args.registers.now c.alu.ensures.grows c.requires.registers

use Rattle.std.proofs.Common.{List, subst, sym}
use Rattle.bv_terms.specs.declared.node.TermId.{TermId}
use Rattle.thread_terms.specs.Standing.{AreRegisters, Writes}
use Rattle.thread_terms.proofs.Standing.{registers_stay, registers_written, writes_number}
use Rattle.thread_terms.proofs.compute.number.Goals as goal

pub returns-clause-writes : goal.returns-clause-writes
returns-clause-writes c =
    let old = c.args.pool.now in
    let new = c.word.new.pool in
    let before = c.args.registers.now in
    subst (λ (after : List TermId). Writes old new before after c.args.rd (λ local. c.args.number)) (sym c.write.ensures)
    (writes_number old new before c.args.rd c.args.number c.in_ok-value.value c.word.ensures.grows c.requires.registers c.requires.rd c.in_ok-value.ensures.made)

pub returns-clause-registers : goal.returns-clause-registers
returns-clause-registers c =
    let new = c.word.new.pool in
    subst (λ (after : List TermId). AreRegisters new after) (sym c.write.ensures)
    (registers_written new c.args.registers.now c.args.rd c.in_ok-value.value (registers_stay c.args.pool.now new c.args.registers.now c.word.ensures.grows c.requires.registers) c.in_ok-value.ensures.made.term c.requires.rd)

pub returns-in_err-value-clause-registers : goal.returns-in_err-value-clause-registers
returns-in_err-value-clause-registers c = registers_stay c.args.pool.now c.word.new.pool c.args.registers.now c.word.ensures.grows c.requires.registers

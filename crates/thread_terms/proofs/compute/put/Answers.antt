use Rattle.std.proofs.Common.{List, subst, sym}
use Rattle.bv_terms.specs.declared.node.TermId.{TermId}
use Rattle.thread_terms.specs.Standing.{AreRegisters, Puts}
use Rattle.thread_terms.proofs.Standing.{puts, registers_written}
use Rattle.thread_terms.proofs.compute.put.Goals as goal

pub returns-clause-puts : goal.returns-clause-puts
returns-clause-puts c =
    let nodes = c.args.pool.now in
    let before = c.args.registers.now in
    subst (λ (after : List TermId). Puts nodes before after c.args.rd c.args.term.number) (sym c.write.ensures) (puts nodes before c.args.rd c.args.term c.requires.registers c.requires.rd)

pub returns-clause-registers : goal.returns-clause-registers
returns-clause-registers c =
    let nodes = c.args.pool.now in
    subst (λ (after : List TermId). AreRegisters nodes after) (sym c.write.ensures) (registers_written nodes c.args.registers.now c.args.rd c.args.term c.requires.registers c.requires.term c.requires.rd)

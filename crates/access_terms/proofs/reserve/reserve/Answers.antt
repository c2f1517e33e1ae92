use Rattle.std.specs.Prelude.{None}
use Rattle.std.proofs.Common.{◌∷◌, [], false, subst, sym, List, length, ap, ◌∙◌}
use Rattle.elf_image.specs.Memory.{number_of}
use Rattle.bv_terms.specs.BitVectors.{bit_of}
use Rattle.bv_terms.specs.Values.{value_at}
use Rattle.step_terms.specs.Made.{Grows, IsMade, IsTerm}
use Rattle.step_terms.proofs.Making.{grows_on, later, stays}
use Rattle.thread_terms.proofs.Standing.{registers_stay}
use Rattle.access_terms.proofs.Atomics.{reserve_step}
use Rattle.access_terms.specs.Rights.{may_use}
use Rattle.access_terms.proofs.Own.{AreRead, constant_made, read_bytes, read_stays, value_read, value_stays}
use Rattle.rv32_decode.specs.declared.instr.Instr.TheVariants as instr
use Rattle.bv_terms.specs.declared.node.TermId.{TermId}
use Rattle.step_terms.specs.Bytes.{AreBytes, numbers, values}
use Rattle.thread_terms.specs.Steps.{IsPlainStep}
use Rattle.access_terms.proofs.Works.{whole_step}
use Rattle.access_terms.proofs.reserve.reserve.Goals as goal

pub usable-requires : goal.usable-requires
usable-requires g c = subst (λ n. IsTerm c.args.pool.now 32 n) (sym c.read-address.ensures) (c.requires.registers.words c.args.rs1 c.requires.rs1)

pub word_of-requires : goal.word_of-requires
word_of-requires g c =
    let read : AreRead c.args.pos c.bytes.new.pool 4 c.in_ok-reads.reads = record { count = c.in_ok-reads.ensures.count; variables = c.in_ok-reads.ensures.variables } in
    record {
      bytes = subst (λ (l : List TermId). AreBytes c.bytes.new.pool l) (sym c.as_slice.ensures) (read_bytes c.args.pos c.bytes.new.pool 4 c.in_ok-reads.reads read);
      four = ap (λ (l : List TermId). length l) c.as_slice.ensures ∙ read.count;
    }

pub put-requires : goal.put-requires
put-requires g c =
    let old = c.args.pool.now in
    let new = c.constant_bit.new.pool in
    let grows : Grows old new = grows_on old c.usable.new.pool new c.usable.ensures.grows
    (grows_on c.usable.new.pool c.bytes.new.pool new c.bytes.ensures.grows (grows_on c.bytes.new.pool c.word_of.new.pool new c.word_of.ensures.grows c.constant_bit.ensures.grows)) in
    record {
      registers = registers_stay old new c.args.registers.now grows c.requires.registers;
      rd = c.requires.rd;
      term = stays c.word_of.new.pool new 32 c.in_ok-value.value.number c.constant_bit.ensures.grows c.in_ok-value.ensures.made.term;
    }

pub returns-clause-step : goal.returns-clause-step
returns-clause-step g c =
    let old = c.args.pool.now in
    let one = c.usable.new.pool in
    let two = c.bytes.new.pool in
    let three = c.word_of.new.pool in
    let new = c.constant_bit.new.pool in
    let before = c.args.registers.now in
    let pos = c.args.pos in
    let image = c.args.image.now in
    let a = c.read-address.result in
    let k = c.in_ok-constraint.constraint in
    let v = c.in_ok-value.value.number in
    let reads = c.in_ok-reads.reads in
    let after_two = grows_on two three new c.word_of.ensures.grows c.constant_bit.ensures.grows in
    let after_one = grows_on one two new c.bytes.ensures.grows after_two in
    let grows = grows_on old one new c.usable.ensures.grows after_one in
    let read : AreRead pos two 4 reads = record { count = c.in_ok-reads.ensures.count; variables = c.in_ok-reads.ensures.variables } in
    let made = subst (λ (l : List TermId). IsMade two three (numbers l) 32 (λ w. number_of (values w two l)) v) c.as_slice.ensures c.in_ok-value.ensures.made in
    subst (λ (l : List TermId). IsPlainStep image pos (instr.LoadReserved c.args.rd c.args.rs1 c.args.aq c.args.rl) old new before c.put.new.registers (whole_step pos k a c.in_ok-guard.guard reads l None)) (sym c.new.ensures)
    (reserve_step image pos c.args.rd c.args.rs1 c.args.aq c.args.rl old new before c.put.new.registers a k c.in_ok-guard.guard v reads grows c.requires.registers c.requires.rs1 c.read-address.ensures
    (later old one new (a.number ∷ []) 1 (λ w. bit_of (may_use image (value_at w old a.number))) k.number after_one c.in_ok-constraint.ensures.made)
    (read_stays pos two new 4 reads after_two read) (value_stays pos three new 4 32 number_of v c.constant_bit.ensures.grows (value_read pos two three 4 32 number_of reads v read made))
    (constant_made three new false c.in_ok-guard.guard.number c.in_ok-guard.ensures.node c.in_ok-guard.ensures.made) c.put.ensures.puts)

pub returns-clause-grows : goal.returns-clause-grows
returns-clause-grows g c =
    grows_on c.args.pool.now c.usable.new.pool c.constant_bit.new.pool c.usable.ensures.grows
    (grows_on c.usable.new.pool c.bytes.new.pool c.constant_bit.new.pool c.bytes.ensures.grows
    (grows_on c.bytes.new.pool c.word_of.new.pool c.constant_bit.new.pool c.word_of.ensures.grows
    c.constant_bit.ensures.grows))

use Rattle.std.proofs.Common.{◌∷◌, [], true, subst, sym, List, length, ap, ◌∙◌}
use Rattle.elf_image.specs.Memory.{number_of}
use Rattle.rv_model.specs.Values.{amo_of}
use Rattle.bv_terms.specs.BitVectors.{bit_of}
use Rattle.bv_terms.specs.Values.{value_at}
use Rattle.step_terms.specs.Made.{Grows, IsMade, IsTerm}
use Rattle.step_terms.proofs.Making.{grows_on, later, stays}
use Rattle.thread_terms.specs.Standing.{term_of}
use Rattle.thread_terms.proofs.Standing.{registers_stay}
use Rattle.access_terms.proofs.Atomics.{amo_step}
use Rattle.access_terms.specs.Rights.{may_use}
use Rattle.access_terms.proofs.Outcomes.{given_bytes}
use Rattle.access_terms.proofs.Own.{AreRead, constant_made, read_bytes, read_stays, value_read, value_stays}
use Rattle.access_terms.proofs.Writing.{written_word}
use Rattle.bv_terms.specs.declared.node.TermId.{TermId}
use Rattle.step_terms.specs.Bytes.{AreBytes, numbers, values}
use Rattle.access_terms.proofs.amo.amo.Goals as goal

pub usable-requires : goal.usable-requires
usable-requires g c = subst (λ n. IsTerm c.args.pool.now 32 n) (sym c.read-address.ensures) (c.requires.registers.words c.args.rs1 c.requires.rs1)

pub word_of-requires : goal.word_of-requires
word_of-requires g c =
    let read : AreRead c.args.pos c.bytes.new.pool 4 c.in_ok-reads.reads = record { count = c.in_ok-reads.ensures.count; variables = c.in_ok-reads.ensures.variables } in
    record {
      bytes = subst (λ (l : List TermId). AreBytes c.bytes.new.pool l) (sym c.as_slice.ensures) (read_bytes c.args.pos c.bytes.new.pool 4 c.in_ok-reads.reads read);
      four = ap (λ (l : List TermId). length l) c.as_slice.ensures ∙ read.count;
    }

pub amo-requires : goal.amo-requires
amo-requires g c =
    let old = c.args.pool.now in
    let three = c.word_of.new.pool in
    let grows : Grows old three = grows_on old c.usable.new.pool three c.usable.ensures.grows (grows_on c.usable.new.pool c.bytes.new.pool three c.bytes.ensures.grows c.word_of.ensures.grows) in
    record {
      old = c.in_ok-value.ensures.made.term;
      word = stays old three 32 c.read-operand.result.number grows (subst (λ n. IsTerm old 32 n) (sym c.read-operand.ensures) (c.requires.registers.words c.args.rs2 c.requires.rs2));
    }

pub put-requires : goal.put-requires
put-requires g c =
    let old = c.args.pool.now in
    let three = c.word_of.new.pool in
    let new = c.constant_bit.new.pool in
    let first : Grows old three = grows_on old c.usable.new.pool three c.usable.ensures.grows (grows_on c.usable.new.pool c.bytes.new.pool three c.bytes.ensures.grows c.word_of.ensures.grows) in
    let last : Grows three new = grows_on three c.amo.new.pool new c.amo.ensures.grows (grows_on c.amo.new.pool c.low_bytes.new.pool new c.low_bytes.ensures.grows c.constant_bit.ensures.grows) in
    record {
      registers = registers_stay old new c.args.registers.now (grows_on old three new first last) c.requires.registers;
      rd = c.requires.rd;
      term = stays three new 32 c.in_ok-value.value.number last c.in_ok-value.ensures.made.term;
    }

pub returns-clause-step : goal.returns-clause-step
returns-clause-step g c =
    let old = c.args.pool.now in
    let one = c.usable.new.pool in
    let two = c.bytes.new.pool in
    let three = c.word_of.new.pool in
    let four = c.amo.new.pool in
    let five = c.low_bytes.new.pool in
    let new = c.constant_bit.new.pool in
    let before = c.args.registers.now in
    let pos = c.args.pos in
    let op = c.args.op in
    let image = c.args.image.now in
    let y = term_of before c.args.rs2 in
    let a = c.read-address.result in
    let k = c.in_ok-constraint.constraint in
    let v = c.in_ok-value.value.number in
    let s = c.in_ok-stored.stored.number in
    let reads = c.in_ok-reads.reads in
    let writes = c.in_ok-writes.writes in
    let after_four = grows_on four five new c.low_bytes.ensures.grows c.constant_bit.ensures.grows in
    let after_three = grows_on three four new c.amo.ensures.grows after_four in
    let after_two = grows_on two three new c.word_of.ensures.grows after_three in
    let after_one = grows_on one two new c.bytes.ensures.grows after_two in
    let grows = grows_on old one new c.usable.ensures.grows after_one in
    let first = grows_on old one three c.usable.ensures.grows (grows_on one two three c.bytes.ensures.grows c.word_of.ensures.grows) in
    let read : AreRead pos two 4 reads = record { count = c.in_ok-reads.ensures.count; variables = c.in_ok-reads.ensures.variables } in
    let made = subst (λ (l : List TermId). IsMade two three (numbers l) 32 (λ w. number_of (values w two l)) v) c.as_slice.ensures c.in_ok-value.ensures.made in
    let value = value_read pos two three 4 32 number_of reads v read made in
    let stored = subst (λ n. IsMade three four (v ∷ n ∷ []) 32 (λ w. amo_of op (value_at w three v) (value_at w three n)) s) c.read-operand.ensures c.in_ok-stored.ensures.made in
    amo_step image pos op c.args.rd c.args.rs1 c.args.rs2 c.args.aq c.args.rl old new before c.put.new.registers a k c.in_ok-guard.guard v reads writes grows c.requires.registers c.requires.rs1 c.requires.rs2 c.read-address.ensures
    (later old one new (a.number ∷ []) 1 (λ w. bit_of (may_use image (value_at w old a.number))) k.number after_one c.in_ok-constraint.ensures.made)
    (read_stays pos two new 4 reads after_two read) (value_stays pos three new 4 32 number_of v after_three value)
    (written_word pos old three four five new before c.args.rs2 v s 4 number_of (amo_of op) writes first c.constant_bit.ensures.grows c.requires.registers c.requires.rs2 value stored c.in_ok-writes.ensures.split (λ w. given_bytes w pos 4) value.value)
    (constant_made five new true c.in_ok-guard.guard.number c.in_ok-guard.ensures.node c.in_ok-guard.ensures.made) c.put.ensures.puts

pub returns-clause-grows : goal.returns-clause-grows
returns-clause-grows g c =
    grows_on c.args.pool.now c.usable.new.pool c.constant_bit.new.pool c.usable.ensures.grows
    (grows_on c.usable.new.pool c.bytes.new.pool c.constant_bit.new.pool c.bytes.ensures.grows
    (grows_on c.bytes.new.pool c.word_of.new.pool c.constant_bit.new.pool c.word_of.ensures.grows
    (grows_on c.word_of.new.pool c.amo.new.pool c.constant_bit.new.pool c.amo.ensures.grows
    (grows_on c.amo.new.pool c.low_bytes.new.pool c.constant_bit.new.pool c.low_bytes.ensures.grows
    c.constant_bit.ensures.grows))))

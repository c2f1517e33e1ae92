use Rattle.std.specs.Prelude.{None}
use Rattle.std.proofs.Common.{◌^◌, ◌≤◌, ◌∷◌, [], ◌∙◌, ℕ, List, false, subst, sym, w32, length, ap}
use Rattle.std.proofs.lemmas.Int.{to_z-of_z}
use Rattle.elf_image.specs.Memory.{number_of, opening_cells}
use Rattle.rv_model.specs.Values.{extended, load_size, plus_offset}
use Rattle.bv_terms.specs.BitVectors.{bit_of}
use Rattle.bv_terms.specs.Values.{Assignment, value_at}
use Rattle.step_terms.specs.Made.{Grows, IsMade, IsTerm}
use Rattle.step_terms.proofs.Making.{by_one, grows_on, later, stays}
use Rattle.thread_terms.specs.Standing.{term_of}
use Rattle.thread_terms.proofs.Standing.{registers_stay}
use Rattle.access_terms.specs.declared.right.Right.TheVariants.{Read}
use Rattle.access_terms.specs.Rights.{all_allow}
use Rattle.access_terms.proofs.Loading.{few_bytes, load_step}
use Rattle.access_terms.proofs.Own.{AreRead, constant_made, read_bytes, read_stays, value_read, value_stays}
use Rattle.rv32_decode.specs.declared.instr.Instr.TheVariants as instr
use Rattle.bv_terms.specs.declared.node.TermId.{TermId}
use Rattle.step_terms.specs.Bytes.{AreBytes, numbers, values}
use Rattle.thread_terms.specs.Steps.{IsPlainStep}
use Rattle.access_terms.proofs.Works.{whole_step}
use Rattle.access_terms.proofs.load.load.Goals as goal

pub offset_by-requires : goal.offset_by-requires
offset_by-requires g c = subst (λ n. IsTerm c.args.pool.now 32 n) (sym c.read-base.ensures) (c.requires.registers.words c.args.rs1 c.requires.rs1)

pub bytes-requires : goal.bytes-requires
bytes-requires g c = record { thread = c.requires.thread; step = c.requires.step; few = subst (λ n. n ≤ 2 ^ 8) (sym c.load_size-2.ensures) (few_bytes c.args.op) }

pub loaded-requires : goal.loaded-requires
loaded-requires g c =
    let size = load_size c.args.op in
    let read : AreRead c.args.pos c.bytes.new.pool size c.in_ok-reads.reads = record { count = c.in_ok-reads.ensures.count ∙ c.load_size-2.ensures; variables = c.in_ok-reads.ensures.variables } in
    record {
      bytes = subst (λ (l : List TermId). AreBytes c.bytes.new.pool l) (sym c.as_slice.ensures) (read_bytes c.args.pos c.bytes.new.pool size c.in_ok-reads.reads read);
      count = ap (λ (l : List TermId). length l) c.as_slice.ensures ∙ read.count;
    }

pub put-requires : goal.put-requires
put-requires g c =
    let old = c.args.pool.now in
    let new = c.constant_bit.new.pool in
    let grows : Grows old new =
    grows_on old c.offset_by.new.pool new c.offset_by.ensures.grows (grows_on c.offset_by.new.pool c.rights.new.pool new c.rights.ensures.grows
    (grows_on c.rights.new.pool c.bytes.new.pool new c.bytes.ensures.grows (grows_on c.bytes.new.pool c.loaded.new.pool new c.loaded.ensures.grows c.constant_bit.ensures.grows))) in
    record {
      registers = registers_stay old new c.args.registers.now grows c.requires.registers;
      rd = c.requires.rd;
      term = stays c.loaded.new.pool new 32 c.in_ok-value.value.number c.constant_bit.ensures.grows c.in_ok-value.ensures.made.term;
    }

pub returns-clause-step : goal.returns-clause-step
returns-clause-step g c =
    let old = c.args.pool.now in
    let one = c.offset_by.new.pool in
    let two = c.rights.new.pool in
    let three = c.bytes.new.pool in
    let four = c.loaded.new.pool in
    let new = c.constant_bit.new.pool in
    let before = c.args.registers.now in
    let op = c.args.op in
    let offset = c.args.offset in
    let pos = c.args.pos in
    let size = load_size op in
    let cells = opening_cells c.args.image.now in
    let x = term_of before c.args.rs1 in
    let b = c.read-base.result.number in
    let a = c.in_ok-address.address.number in
    let k = c.in_ok-constraint.constraint.number in
    let v = c.in_ok-value.value.number in
    let reads = c.in_ok-reads.reads in
    let place = λ (w : Assignment). plus_offset (value_at w old x) offset in
    let after_three = grows_on three four new c.loaded.ensures.grows c.constant_bit.ensures.grows in
    let after_two = grows_on two three new c.bytes.ensures.grows after_three in
    let after_one = grows_on one two new c.rights.ensures.grows after_two in
    let grows = grows_on old one new c.offset_by.ensures.grows after_one in
    let whole = subst (λ z. IsMade old one (b ∷ []) 32 (λ w. plus_offset (value_at w old b) z) a) (to_z-of_z w32 offset c.ranges.offset) c.in_ok-address.ensures.made in
    let at = subst (λ n. IsMade old one (n ∷ []) 32 (λ w. plus_offset (value_at w old n) offset) a) c.read-base.ensures whole in
    let right = subst (λ n. IsMade one two (a ∷ []) 1 (λ w. bit_of (all_allow Read cells (value_at w one a) n)) k) c.load_size.ensures c.in_ok-constraint.ensures.made in
    let allowed = by_one old one two (x ∷ []) a 32 1 place (λ n. bit_of (all_allow Read cells n size)) k at right in
    let read : AreRead pos three size reads = record { count = c.in_ok-reads.ensures.count ∙ c.load_size-2.ensures; variables = c.in_ok-reads.ensures.variables } in
    let f = λ (bytes : List ℕ). extended op (number_of bytes) in
    let made = subst (λ (l : List TermId). IsMade three four (numbers l) 32 (λ w. extended op (number_of (values w three l))) v) c.as_slice.ensures c.in_ok-value.ensures.made in
    subst (λ (l : List TermId). IsPlainStep c.args.image.now pos (instr.Load op c.args.rd c.args.rs1 offset) old new before c.put.new.registers
    (whole_step pos c.in_ok-constraint.constraint c.in_ok-address.address c.in_ok-guard.guard reads l None)) (sym c.new.ensures)
    (load_step c.args.image.now pos op c.args.rd c.args.rs1 offset old new before c.put.new.registers c.in_ok-address.address c.in_ok-constraint.constraint c.in_ok-guard.guard v reads grows c.requires.registers c.requires.rs1
    (later old one new (x ∷ []) 32 place a after_one at) (later old two new (x ∷ []) 1 (λ w. bit_of (all_allow Read cells (place w) size)) k after_two allowed)
    (read_stays pos three new size reads after_three read) (value_stays pos four new size 32 f v c.constant_bit.ensures.grows (value_read pos three four size 32 f reads v read made))
    (constant_made four new false c.in_ok-guard.guard.number c.in_ok-guard.ensures.node c.in_ok-guard.ensures.made) c.put.ensures.puts)

pub returns-clause-grows : goal.returns-clause-grows
returns-clause-grows g c =
    grows_on c.args.pool.now c.offset_by.new.pool c.constant_bit.new.pool c.offset_by.ensures.grows
    (grows_on c.offset_by.new.pool c.rights.new.pool c.constant_bit.new.pool c.rights.ensures.grows
    (grows_on c.rights.new.pool c.bytes.new.pool c.constant_bit.new.pool c.bytes.ensures.grows
    (grows_on c.bytes.new.pool c.loaded.new.pool c.constant_bit.new.pool c.loaded.ensures.grows
    c.constant_bit.ensures.grows)))

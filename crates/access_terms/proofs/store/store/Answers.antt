use Rattle.std.specs.Prelude.{None}
use Rattle.std.proofs.Common.{◌≤◌, ◌∷◌, [], true, subst, sym, w32, List}
use Rattle.std.proofs.lemmas.Int.{to_z-of_z}
use Rattle.elf_image.specs.Memory.{opening_cells}
use Rattle.rv_model.specs.Values.{plus_offset, store_size}
use Rattle.bv_terms.specs.declared.node.TermId.{TermId}
use Rattle.bv_terms.specs.BitVectors.{bit_of}
use Rattle.bv_terms.specs.Values.{Assignment, value_at}
use Rattle.step_terms.specs.Made.{IsMade, IsTerm}
use Rattle.step_terms.proofs.Making.{by_one, grows_on, later, stays}
use Rattle.thread_terms.specs.Standing.{term_of}
use Rattle.access_terms.specs.declared.right.Right.TheVariants.{Write}
use Rattle.access_terms.specs.Rights.{all_allow}
use Rattle.access_terms.specs.Split.{AreLowBytes}
use Rattle.access_terms.proofs.Own.{constant_made}
use Rattle.access_terms.proofs.Storing.{few_stored, store_step}
use Rattle.access_terms.proofs.Writing.{written_register}
use Rattle.rv32_decode.specs.declared.instr.Instr.TheVariants as instr
use Rattle.thread_terms.specs.Steps.{IsPlainStep}
use Rattle.access_terms.proofs.Works.{whole_step}
use Rattle.access_terms.proofs.store.store.Goals as goal

pub offset_by-requires : goal.offset_by-requires
offset_by-requires g c = subst (λ n. IsTerm c.args.pool.now 32 n) (sym c.read-base.ensures) (c.requires.registers.words c.args.rs1 c.requires.rs1)

pub low_bytes-requires : goal.low_bytes-requires
low_bytes-requires g c =
    let old = c.args.pool.now in
    let one = c.offset_by.new.pool in
    let two = c.rights.new.pool in
    record {
      word = stays old two 32 c.read-word.result.number (grows_on old one two c.offset_by.ensures.grows c.rights.ensures.grows)
          (subst (λ n. IsTerm old 32 n) (sym c.read-word.ensures) (c.requires.registers.words c.args.rs2 c.requires.rs2));
      few = subst (λ n. n ≤ 4) (sym c.store_size-2.ensures) (few_stored c.args.op);
    }

pub returns-clause-step : goal.returns-clause-step
returns-clause-step g c =
    let old = c.args.pool.now in
    let one = c.offset_by.new.pool in
    let two = c.rights.new.pool in
    let three = c.low_bytes.new.pool in
    let new = c.constant_bit.new.pool in
    let before = c.args.registers.now in
    let op = c.args.op in
    let offset = c.args.offset in
    let pos = c.args.pos in
    let size = store_size op in
    let cells = opening_cells c.args.image.now in
    let x = term_of before c.args.rs1 in
    let y = term_of before c.args.rs2 in
    let b = c.read-base.result.number in
    let a = c.in_ok-address.address.number in
    let k = c.in_ok-constraint.constraint.number in
    let writes = c.in_ok-writes.writes in
    let place = λ (w : Assignment). plus_offset (value_at w old x) offset in
    let after_two = grows_on two three new c.low_bytes.ensures.grows c.constant_bit.ensures.grows in
    let after_one = grows_on one two new c.rights.ensures.grows after_two in
    let grows = grows_on old one new c.offset_by.ensures.grows after_one in
    let whole = subst (λ z. IsMade old one (b ∷ []) 32 (λ w. plus_offset (value_at w old b) z) a) (to_z-of_z w32 offset c.ranges.offset) c.in_ok-address.ensures.made in
    let at = subst (λ n. IsMade old one (n ∷ []) 32 (λ w. plus_offset (value_at w old n) offset) a) c.read-base.ensures whole in
    let right = subst (λ n. IsMade one two (a ∷ []) 1 (λ w. bit_of (all_allow Write cells (value_at w one a) n)) k) c.store_size.ensures c.in_ok-constraint.ensures.made in
    let allowed = by_one old one two (x ∷ []) a 32 1 place (λ n. bit_of (all_allow Write cells n size)) k at right in
    let sized = subst (λ n. AreLowBytes two three c.read-word.result.number n writes) c.store_size-2.ensures c.in_ok-writes.ensures.split in
    let low = subst (λ n. AreLowBytes two three n size writes) c.read-word.ensures sized in
    subst (λ (l : List TermId). IsPlainStep c.args.image.now pos (instr.Store op c.args.rs1 c.args.rs2 offset) old new before before
    (whole_step pos c.in_ok-constraint.constraint c.in_ok-address.address c.in_ok-guard.guard l writes None)) (sym c.new.ensures)
    (store_step c.args.image.now pos op c.args.rs1 c.args.rs2 offset old new before c.in_ok-address.address c.in_ok-constraint.constraint c.in_ok-guard.guard writes grows c.requires.registers c.requires.rs1 c.requires.rs2
    (later old one new (x ∷ []) 32 place a after_one at) (later old two new (x ∷ []) 1 (λ w. bit_of (all_allow Write cells (place w) size)) k after_two allowed)
    (written_register old two three new before c.args.rs2 size writes (grows_on old one two c.offset_by.ensures.grows c.rights.ensures.grows) c.constant_bit.ensures.grows c.requires.registers c.requires.rs2 low)
    (constant_made three new true c.in_ok-guard.guard.number c.in_ok-guard.ensures.node c.in_ok-guard.ensures.made))

pub returns-clause-grows : goal.returns-clause-grows
returns-clause-grows g c =
    grows_on c.args.pool.now c.offset_by.new.pool c.constant_bit.new.pool c.offset_by.ensures.grows
    (grows_on c.offset_by.new.pool c.rights.new.pool c.constant_bit.new.pool c.rights.ensures.grows
    (grows_on c.rights.new.pool c.low_bytes.new.pool c.constant_bit.new.pool c.low_bytes.ensures.grows
    c.constant_bit.ensures.grows))

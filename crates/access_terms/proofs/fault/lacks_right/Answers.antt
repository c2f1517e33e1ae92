use Rattle.std.proofs.Common.{◌∷◌, [], subst, sym, w32}
use Rattle.std.proofs.lemmas.Int.{to_z-of_z}
use Rattle.std.proofs.lemmas.Result.{IfOk-weaker}
use Rattle.elf_image.specs.Memory.{opening_cells}
use Rattle.rv_model.specs.Values.{plus_offset}
use Rattle.bv_terms.specs.BitVectors.{bit_of}
use Rattle.bv_terms.specs.Values.{Assignment, value_at}
use Rattle.step_terms.specs.Made.{IsMade, IsTerm}
use Rattle.step_terms.proofs.Making.{by_one, of_inverse}
use Rattle.thread_terms.specs.Standing.{term_of}
use Rattle.access_terms.specs.Rights.{all_allow}
use Rattle.access_terms.proofs.fault.lacks_right.Goals as goal

pub offset_by-requires : goal.offset_by-requires
offset_by-requires g c = subst (λ n. IsTerm c.args.pool.now 32 n) (sym c.read-base.ensures) (c.requires.registers.words c.args.rs1 c.requires.rs1)

pub returns-clause-made : goal.returns-clause-made
returns-clause-made g c =
    let old = c.args.pool.now in
    let one = c.offset_by.new.pool in
    let two = c.rights.new.pool in
    let cells = opening_cells c.args.image.now in
    let offset = c.args.offset in
    let x = term_of c.args.registers.now c.args.rs1 in
    let b = c.read-base.result.number in
    let a = c.in_ok-address.address.number in
    let t = c.in_ok-test.test.number in
    let place = λ (w : Assignment). plus_offset (value_at w old x) offset in
    let whole = subst (λ z. IsMade old one (b ∷ []) 32 (λ w. plus_offset (value_at w old b) z) a) (to_z-of_z w32 offset c.ranges.offset) c.in_ok-address.ensures.made in
    let at = subst (λ n. IsMade old one (n ∷ []) 32 (λ w. plus_offset (value_at w old n) offset) a) c.read-base.ensures whole in
    let allowed = by_one old one two (x ∷ []) a 32 1 place (λ n. bit_of (all_allow c.args.right cells n c.args.count)) t at c.in_ok-test.ensures.made in
    IfOk-weaker c.inverse.result _ _ (λ id h. of_inverse old two c.inverse.new.pool (x ∷ []) t 1 (λ w. bit_of (all_allow c.args.right cells (place w) c.args.count)) id.number allowed h) c.inverse.ensures.term

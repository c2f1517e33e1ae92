use Rattle.std.proofs.Common.{◌*◌, ◌/◌, ◌%◌, ◌^◌, ◌∷◌, [], ap, nat_eq, subst, sym, w32}
use Rattle.std.proofs.lemmas.Int.{to_z-of_z}
use Rattle.std.proofs.lemmas.Result.{IfOk-weaker}
use Rattle.rv_model.specs.Instruction.{is_aligned}
use Rattle.rv_model.specs.Values.{plus_offset}
use Rattle.bv_terms.specs.BitVectors.{bit_of}
use Rattle.bv_terms.specs.Values.{Assignment, value_at}
use Rattle.step_terms.specs.Made.{IsMade, IsTerm}
use Rattle.step_terms.proofs.Making.{by_one, of_inverse, reworded}
use Rattle.thread_terms.specs.Standing.{term_of}
use Rattle.access_terms.proofs.Tests.{aligned_test}
use Rattle.access_terms.proofs.fault.misses.Goals as goal

pub jump_target-requires : goal.jump_target-requires
jump_target-requires g c = subst (λ n. IsTerm c.args.pool.now 32 n) (sym c.read-base.ensures) (c.requires.registers.words c.args.rs1 c.requires.rs1)

pub returns-clause-made : goal.returns-clause-made
returns-clause-made g c =
    let old = c.args.pool.now in
    let one = c.jump_target.new.pool in
    let two = c.two_bits_are_zero.new.pool in
    let offset = c.args.offset in
    let x = term_of c.args.registers.now c.args.rs1 in
    let b = c.read-base.result.number in
    let a = c.in_ok-target.target.number in
    let t = c.in_ok-aligned.aligned.number in
    let target = λ (w : Assignment). plus_offset (value_at w old x) offset / 2 * 2 in
    let whole = subst (λ z. IsMade old one (b ∷ []) 32 (λ w. plus_offset (value_at w old b) z / 2 * 2) a) (to_z-of_z w32 offset c.ranges.offset) c.in_ok-target.ensures.made in
    let at = subst (λ n. IsMade old one (n ∷ []) 32 (λ w. plus_offset (value_at w old n) offset / 2 * 2) a) c.read-base.ensures whole in
    let low = by_one old one two (x ∷ []) a 32 1 target (λ n. bit_of (nat_eq (n / 2 ^ 0 % 2 ^ 2) 0)) t at c.in_ok-aligned.ensures.made in
    let aligned = reworded old two (x ∷ []) 1 (λ w. bit_of (nat_eq (target w / 2 ^ 0 % 2 ^ 2) 0)) (λ w. bit_of (is_aligned (target w))) t low (λ w. ap bit_of (aligned_test (target w))) in
    IfOk-weaker c.inverse.result _ _ (λ id h. of_inverse old two c.inverse.new.pool (x ∷ []) t 1 (λ w. bit_of (is_aligned (target w))) id.number aligned h) c.inverse.ensures.term

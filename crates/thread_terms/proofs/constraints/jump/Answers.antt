use Rattle.std.proofs.Common.{◌≡◌, ◌*◌, ◌/◌, ◌∷◌, [], nat_eq, subst, sym, w32}
use Rattle.std.proofs.lemmas.Int.{to_z-of_z}
use Rattle.std.proofs.lemmas.Result.{IfOk-weaker}
use Rattle.bv_terms.specs.BitVectors.{bit_of}
use Rattle.bv_terms.specs.Values.{value_at}
use Rattle.rv_model.specs.Values.{plus_offset}
use Rattle.step_terms.specs.Made.{IsMade, IsTerm}
use Rattle.step_terms.proofs.Making.{by_one}
use Rattle.thread_terms.specs.Standing.{term_of}
use Rattle.thread_terms.proofs.Saying.{is_number, says_of_one}
use Rattle.thread_terms.proofs.constraints.jump.Goals as goal

pub jump_target-requires : goal.jump_target-requires
jump_target-requires g c = subst (λ n. IsTerm c.args.pool.now 32 n) (sym c.read-base.ensures) (c.requires.registers.words c.args.rs1 c.requires.rs1)

pub returns-clause-says : goal.returns-clause-says
returns-clause-says g c =
    let old = c.args.pool.now in
    let mid = c.jump_target.new.pool in
    let new = c.equals.new.pool in
    let registers = c.args.registers.now in
    let target = c.in_ok-target.target.number in
    let offset = c.args.offset in
    let recorded = c.args.recorded in
    let x = term_of registers c.args.rs1 in
    let b = c.read-base.result.number in
    let whole = subst (λ z. IsMade old mid (b ∷ []) 32 (λ w. plus_offset (value_at w old b) z / 2 * 2) target) (to_z-of_z w32 offset c.ranges.offset) c.in_ok-target.ensures.made in
    let made = subst (λ n. IsMade old mid (n ∷ []) 32 (λ w. plus_offset (value_at w old n) offset / 2 * 2) target) c.read-base.ensures whole in
    IfOk-weaker c.equals.result _ _
    (λ id h. says_of_one old new registers c.args.rs1 id.number (λ u. bit_of (nat_eq (plus_offset u offset / 2 * 2) recorded)) (λ u. plus_offset u offset / 2 * 2 ≡ recorded) c.requires.rs1
    (by_one old mid new (x ∷ []) target 32 1 (λ w. plus_offset (value_at w old x) offset / 2 * 2) (λ v. bit_of (nat_eq v recorded)) id.number made h)
    (λ u. is_number (plus_offset u offset / 2 * 2) recorded)) c.equals.ensures.made

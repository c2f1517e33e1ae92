use Rattle.std.proofs.Common.{◌∷◌, [], subst, sym}
use Rattle.std.proofs.lemmas.Result.{IfOk-weaker}
use Rattle.bv_terms.specs.BitVectors.{bit_of}
use Rattle.bv_terms.specs.Values.{value_at}
use Rattle.step_terms.specs.Made.{IsMade, IsTerm}
use Rattle.step_terms.proofs.Making.{of_inverse}
use Rattle.thread_terms.specs.Standing.{term_of}
use Rattle.access_terms.specs.Rights.{may_use}
use Rattle.access_terms.proofs.fault.unusable.Goals as goal

pub usable-requires : goal.usable-requires
usable-requires g c = subst (λ n. IsTerm c.args.pool.now 32 n) (sym c.read.ensures) (c.requires.registers.words c.args.rs1 c.requires.rs1)

pub returns-clause-made : goal.returns-clause-made
returns-clause-made g c =
    let old = c.args.pool.now in
    let mid = c.usable.new.pool in
    let image = c.args.image.now in
    let x = term_of c.args.registers.now c.args.rs1 in
    let t = c.in_ok-test.test.number in
    let test = subst (λ n. IsMade old mid (n ∷ []) 1 (λ w. bit_of (may_use image (value_at w old n))) t) c.read.ensures c.in_ok-test.ensures.made in
    IfOk-weaker c.inverse.result _ _ (λ id h. of_inverse old mid c.inverse.new.pool (x ∷ []) t 1 (λ w. bit_of (may_use image (value_at w old x))) id.number test h) c.inverse.ensures.term

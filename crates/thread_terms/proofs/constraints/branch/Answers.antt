use Rattle.std.proofs.Common.{◌≡◌, ◌-◌, ◌∷◌, [], cond, subst, sym}
use Rattle.std.proofs.lemmas.Result.{IfOk-weaker}
use Rattle.bv_terms.specs.BitVectors.{bit_of}
use Rattle.bv_terms.specs.Values.{value_at}
use Rattle.rv_model.specs.Values.{taken_of}
use Rattle.step_terms.specs.Made.{IsMade, IsTerm}
use Rattle.step_terms.proofs.Making.{by_one}
use Rattle.thread_terms.specs.Standing.{term_of}
use Rattle.thread_terms.proofs.Saying.{as_recorded, says_of_two}
use Rattle.thread_terms.proofs.constraints.branch.Goals as goal

pub taken-requires : goal.taken-requires
taken-requires g c =
    let old = c.args.pool.now in
    record {
      left = subst (λ n. IsTerm old 32 n) (sym c.read-left.ensures) (c.requires.registers.words c.args.rs1 c.requires.rs1);
      right = subst (λ n. IsTerm old 32 n) (sym c.read-right.ensures) (c.requires.registers.words c.args.rs2 c.requires.rs2);
    }

pub returns-clause-says : goal.returns-clause-says
returns-clause-says g c =
    let old = c.args.pool.now in
    let mid = c.taken.new.pool in
    let new = c.agrees.new.pool in
    let registers = c.args.registers.now in
    let goes = c.in_ok-goes.goes.number in
    let op = c.args.op in
    let recorded = c.args.recorded in
    let x = term_of registers c.args.rs1 in
    let y = term_of registers c.args.rs2 in
    let made = subst (λ n. IsMade old mid (x ∷ n ∷ []) 1 (λ w. bit_of (taken_of op (value_at w old x) (value_at w old n))) goes) c.read-right.ensures
    (subst (λ n. IsMade old mid (n ∷ c.read-right.result.number ∷ []) 1 (λ w. bit_of (taken_of op (value_at w old n) (value_at w old c.read-right.result.number))) goes) c.read-left.ensures c.in_ok-goes.ensures.made) in
    IfOk-weaker c.agrees.result _ _
    (λ id h. says_of_two old new registers c.args.rs1 c.args.rs2 id.number (λ u v. cond recorded (bit_of (taken_of op u v)) (1 - bit_of (taken_of op u v))) (λ u v. taken_of op u v ≡ recorded) c.requires.rs1 c.requires.rs2
    (by_one old mid new (x ∷ y ∷ []) goes 1 1 (λ w. bit_of (taken_of op (value_at w old x) (value_at w old y))) (λ b. cond recorded b (1 - b)) id.number made h)
    (λ u v. as_recorded (taken_of op u v) recorded)) c.agrees.ensures.made

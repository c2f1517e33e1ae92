use Rattle.std.proofs.Common.{◌≡◌, ◌∷◌, [], nat_eq, subst, sym}
use Rattle.std.proofs.lemmas.Result.{IfOk-weaker}
use Rattle.bv_terms.specs.BitVectors.{bit_of}
use Rattle.bv_terms.specs.Values.{value_at}
use Rattle.step_terms.specs.Made.{IsMade, IsTerm}
use Rattle.thread_terms.proofs.Saying.{is_number, says_of_one}
use Rattle.thread_terms.proofs.constraints.holds.Goals as goal

pub equals-requires : goal.equals-requires
equals-requires g c = subst (λ n. IsTerm c.args.pool.now 32 n) (sym c.read.ensures) (c.requires.registers.words c.args.number c.requires.number)

pub returns-clause-says : goal.returns-clause-says
returns-clause-says g c =
    let old = c.args.pool.now in
    let new = c.equals.new.pool in
    let registers = c.args.registers.now in
    let recorded = c.args.recorded in
    IfOk-weaker c.equals.result _ _
    (λ id h. says_of_one old new registers c.args.number id.number (λ u. bit_of (nat_eq u recorded)) (λ u. u ≡ recorded) c.requires.number
    (subst (λ n. IsMade old new (n ∷ []) 1 (λ w. bit_of (nat_eq (value_at w old n) recorded)) id.number) c.read.ensures h)
    (λ u. is_number u recorded)) c.equals.ensures.made

use Rattle.std.proofs.Common.{◌≡◌, ◌≤◌, Bool, Some, length, slice_get, refl, subst, arith}
use Rattle.std.proofs.lemmas.Option.{slice_get_read}
use Rattle.clause_check.specs.Trials.{IsAssumed}
use Rattle.clause_check.proofs.Trying as trying
use Rattle.clause_check.proofs.trial.assume_false.Goals as goal

pub loop-lit-init : goal.loop-lit-init
loop-lit-init c = trying.assuming-start c.args.engine c.args.line.now c.requires.calm

pub assume_one-requires-clause-settled : goal.assume_one-requires-clause-settled
assume_one-requires-clause-settled c = c.loop-lit.invariant.settled

pub returns-then-closed : goal.returns-then-closed
returns-then-closed c =
    let here : slice_get c.args.line.now c.loop-lit.lit-index ≡ Some c.lit-item.result =
    slice_get_read c.args.line.now (length c.args.line.now) c.loop-lit.lit-index c.lit-item.result refl (omega arith) c.lit-item.is in
    trying.assuming-closed c.args.engine c.loop-lit.tried c.in_ok-next.next c.args.line.now c.loop-lit.lit-index c.lit-item.result c.loop-lit.invariant here
    (subst (λ (b : Bool). IsAssumed c.loop-lit.tried c.lit-item.result c.in_ok-next.next b) c.if-closed.true c.in_ok-next.ensures) c.len-steps.ensures.walk

pub loop-lit-preserved : goal.loop-lit-preserved
loop-lit-preserved c =
    let here : slice_get c.args.line.now c.loop-lit.lit-index ≡ Some c.lit-item.result =
    slice_get_read c.args.line.now (length c.args.line.now) c.loop-lit.lit-index c.lit-item.result refl (omega arith) c.lit-item.is in
    trying.assuming-more c.args.engine c.loop-lit.tried c.in_ok-next.next c.args.line.now c.loop-lit.lit-index c.lit-item.result c.loop-lit.invariant here
    (subst (λ (b : Bool). IsAssumed c.loop-lit.tried c.lit-item.result c.in_ok-next.next b) c.if-closed.false c.in_ok-next.ensures)

pub returns : goal.returns
returns c =
    let done : length c.args.line.now ≤ c.loop-lit.lit-index = omega arith in
    trying.assuming-end c.args.engine c.loop-lit.tried c.args.line.now c.loop-lit.lit-index c.loop-lit.invariant done

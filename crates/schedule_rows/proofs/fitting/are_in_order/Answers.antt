use Rattle.std.specs.Prelude.{◌≤◌, length, refl}
use Rattle.std.proofs.Common.{arith}
use Rattle.schedule_rows.specs.Fitting.{IsLast}
use Rattle.schedule_rows.proofs.Members.{below_all, below_more}
use Rattle.schedule_rows.proofs.fitting.are_in_order.Goals as goal

pub loop-at-preserved : goal.loop-at-preserved
loop-at-preserved c =
    below_more (λ at. IsLast c.args.log.now c.args.decided.now c.args.steps.now at) c.loop-at.at c.loop-at.invariant (c.if-not-is_last.ensures refl)

pub returns : goal.returns
returns c =
    let all : length c.args.steps.now ≤ c.loop-at.at = omega (arith, c.loop-at-test.false) in
    λ true. below_all (λ at. IsLast c.args.log.now c.args.decided.now c.args.steps.now at) c.loop-at.at (length c.args.steps.now) all c.loop-at.invariant

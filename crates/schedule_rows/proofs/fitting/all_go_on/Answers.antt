use Rattle.std.specs.Prelude.{◌≤◌, length}
use Rattle.std.proofs.Common.{arith}
use Rattle.schedule_rows.specs.Fitting.{GoesOn}
use Rattle.schedule_rows.proofs.Members.{items_all}
use Rattle.schedule_rows.proofs.fitting.all_go_on.Goals as goal

pub returns : goal.returns
returns c =
    let all : length c.args.decided.now ≤ c.loop-pair.pair-index = omega (arith, c.loop-pair-test.false) in
    λ true. items_all (GoesOn c.args.log.now) c.args.decided.now c.loop-pair.pair-index all c.loop-pair.invariant

use Rattle.std.specs.Prelude.{◌≡◌, ◌≤◌, length}
use Rattle.std.proofs.Common.{ap, arith}
use Rattle.odr_log.specs.declared.log.CallRec.{CallRec}
use Rattle.schedule_rows.proofs.Members.{exits_end_by}
use Rattle.schedule_rows.proofs.fitting.exits_end.Goals as goal

pub returns : goal.returns
returns c =
    let same : length c.as_slice-made-items.result.now ≡ length c.args.log.now.calls = ap (length {A = CallRec}) c.as_slice-made-items.ensures in
    let all : length c.args.log.now.calls ≤ c.loop-made.made-index = omega (arith, c.loop-made-test.false, same) in
    λ true. exits_end_by c.args.log.now c.loop-made.made-index all c.loop-made.invariant

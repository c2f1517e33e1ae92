use Rattle.std.proofs.Common.{◌≤◌, length, arith}
use Rattle.walk_notes.proofs.RowLemmas.{rows_all}
use Rattle.walk_notes.proofs.notes.notes_of_log.Goals as goal

pub returns : goal.returns
returns c =
    let past : length c.args.log.now.threads ≤ c.loop-thread.thread = omega (arith, c.loop-thread-test.false, c.len-thread-end.ensures) in
    rows_all c.args.image.now c.args.log.now c.loop-thread.thread c.loop-thread.all c.loop-thread.invariant.1 past c.loop-thread.invariant.0

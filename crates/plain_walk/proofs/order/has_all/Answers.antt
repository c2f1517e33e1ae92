use Rattle.std.proofs.Common.{[], length, slice_index_or, refl}
use Rattle.plain_walk.specs.Order.{HasRow}
use Rattle.plain_walk.proofs.OrderLemmas.{rows_more}
use Rattle.plain_walk.proofs.order.has_all.Goals as goal

pub loop-thread-preserved : goal.loop-thread-preserved
loop-thread-preserved c =
    let row : HasRow c.args.steps.now c.loop-thread.thread (length (slice_index_or c.args.notes.now c.loop-thread.thread [])) =
    c.if-not-has_steps_of.ensures.has refl in
    rows_more c.args.notes.now c.args.steps.now c.loop-thread.thread c.loop-thread.invariant row

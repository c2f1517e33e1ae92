use Rattle.std.proofs.Common.{◌∙◌}
use Rattle.happens_before.proofs.TableLemmas.{order_more}
use Rattle.happens_before.proofs.table.order_of.Goals as goal

pub loop-thread-preserved : goal.loop-thread-preserved
loop-thread-preserved c =
    c.in_ok-push.ensures.items
    ∙ order_more c.args.log.now c.loop-thread.thread c.loop-thread.threads.items c.maker_number.result c.in_ok-calls_of.field-0
    c.loop-thread.invariant c.maker_number.ensures c.in_ok-calls_of.ensures

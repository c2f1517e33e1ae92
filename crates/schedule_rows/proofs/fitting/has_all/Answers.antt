use Rattle.std.specs.Prelude.{refl}
use Rattle.schedule_rows.proofs.Members.{threads_more}
use Rattle.schedule_rows.proofs.fitting.has_all.Goals as goal

pub loop-thread-preserved : goal.loop-thread-preserved
loop-thread-preserved c =
    threads_more c.args.log.now c.args.steps.now c.loop-thread.thread c.steps_logged.result c.steps_logged.ensures
    (c.if-not-has_steps.ensures refl) c.loop-thread.invariant

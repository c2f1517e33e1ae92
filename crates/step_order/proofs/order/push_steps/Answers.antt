use Rattle.std.proofs.Common.{◌∙◌}
use Rattle.step_order.proofs.Fronts.{pushed_more}
use Rattle.step_order.proofs.order.push_steps.Goals as goal

pub loop-step-preserved : goal.loop-step-preserved
loop-step-preserved c =
    c.in_ok-push.ensures
    ∙ pushed_more c.args.order.now c.loop-step.order c.args.thread c.args.from c.loop-step.step c.loop-step.auto.step c.loop-step.invariant

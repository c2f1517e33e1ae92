use Rattle.rv_model.proofs.Difference.{enabled_within}
use Rattle.plain_machine.proofs.machine.step.Goals as goal

pub thread_at-before-requires : goal.thread_at-before-requires
thread_at-before-requires c = enabled_within c.args.image.now c.args.state c.args.thread c.requires.enabled

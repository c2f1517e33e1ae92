use Rattle.std.proofs.Common.{rules}
use Rattle.replay_check.proofs.AnswerLemmas.{same_is_log}
use Rattle.replay_check.proofs.replay.replay.Goals as goal

pub returns-in-None-clause-same : goal.returns-in-None-clause-same
returns-in-None-clause-same c = same_is_log c.args.image.now c.args.log.now c.args.schedule.now _ (search rules)

pub returns-clause-same : goal.returns-clause-same
returns-clause-same c = same_is_log c.args.image.now c.args.log.now c.args.schedule.now _ (search rules)

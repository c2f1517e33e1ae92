use Rattle.recorder.proofs.Holds.{genuine_run}
use Rattle.recorder.proofs.run.record_run.Goals as goal

pub returns-clause-genuine : goal.returns-clause-genuine
returns-clause-genuine c = genuine_run c.args.image.now c.args.tape.items c.args.seed c.args.limit c.in_ok-log.log c.in_ok-log.ensures.log

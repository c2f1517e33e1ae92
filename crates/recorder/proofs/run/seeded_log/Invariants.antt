use Rattle.recorder.proofs.Holds.{SoFar}
use Rattle.recorder.proofs.run.seeded_log.Given as goal

abbrev pub invariant-loop-place : goal.invariant-loop-place
invariant-loop-place l = SoFar l.image l.fn.tape.items l.seed l.limit l._place l.machine l.chooser l.log.threads.items l.log.calls

use Rattle.rv_model.proofs.SoFar.{SoFar}
use Rattle.plain_machine.proofs.run.first_difference.Given as goal

abbrev pub invariant-loop-place : goal.invariant-loop-place
invariant-loop-place l = SoFar l.image l.log l.schedule l.place l.state l.happened

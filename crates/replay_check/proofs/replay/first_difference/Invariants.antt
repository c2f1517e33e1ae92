use Rattle.replay_check.proofs.AlongLemmas.{Along}
use Rattle.replay_check.proofs.replay.first_difference.Given as goal

abbrev pub invariant-loop-place : goal.invariant-loop-place
invariant-loop-place l = Along l.fn.machine.image l.log l.schedule l.place l.machine l.met

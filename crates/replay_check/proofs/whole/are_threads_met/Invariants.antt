use Rattle.std.proofs.Common.{ℕ, ◌<◌}
use Rattle.replay_check.specs.Met.{IsThreadMet}
use Rattle.replay_check.proofs.whole.are_threads_met.Given as goal

abbrev pub invariant-loop-tid : goal.invariant-loop-tid
invariant-loop-tid l = (thread : ℕ) → thread < l.tid → IsThreadMet l.log l.machine.core l.met thread

use Rattle.trace_path.specs.Followed.{IsGathered}
use Rattle.trace_path.proofs.threads.gather.Given as goal

abbrev pub invariant-loop-thread : goal.invariant-loop-thread
invariant-loop-thread l = IsGathered l.image l.log l.thread l.gathered

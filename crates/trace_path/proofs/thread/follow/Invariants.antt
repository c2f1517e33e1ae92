use Rattle.trace_path.specs.Followed.{IsFront}
use Rattle.trace_path.proofs.thread.follow.Given as goal

abbrev pub invariant-loop-step : goal.invariant-loop-step
invariant-loop-step l = IsFront l.image l.log l.thread l.start l.step l.places l.accesses l.cursor

use Rattle.std.proofs.Common.{◌≤◌, length}
use Rattle.path_exec.proofs.Endings.{AreFirst}
use Rattle.path_exec.proofs.ending.ends_of.Given as goal

abbrev pub invariant-loop-thread : goal.invariant-loop-thread
invariant-loop-thread l = AreFirst l.walkers l.thread l.ends × (l.thread ≤ length l.walkers)

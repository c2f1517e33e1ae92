use Rattle.std.proofs.Common.{take}
use Rattle.step_terms.specs.Made.{Grows}
use Rattle.path_exec.specs.Progress.{AreFollowed}
use Rattle.path_exec.proofs.run.follow_all.Given as goal

abbrev pub invariant-loop-i : goal.invariant-loop-i
invariant-loop-i g l = AreFollowed l.image l.log l.pool (take l.i l.steps) l.progress × Grows l.fn.pool l.pool

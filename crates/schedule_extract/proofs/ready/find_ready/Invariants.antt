use Rattle.std.specs.Prelude.{ℕ, ◌<◌}
use Rattle.schedule_extract.specs.Going.{IsStuck}
use Rattle.schedule_extract.specs.Marks.{AllPassed}
use Rattle.schedule_extract.proofs.ready.find_ready.Given as goal

abbrev pub invariant-loop-thread : goal.invariant-loop-thread
invariant-loop-thread l = record {
  passed : AllPassed l.pairs l.next l.marks;
  stuck : (t : ℕ) → t < l.thread → IsStuck l.log l.pairs l.exit l.next t;
}

use Rattle.std.specs.Prelude.{length}
use Rattle.schedule_extract.specs.Marks.{AllPassed}
use Rattle.schedule_extract.proofs.Weaving.{IsWeaving, left}
use Rattle.schedule_extract.proofs.extract.weave.Given as goal

abbrev pub invariant-loop-thread : goal.invariant-loop-thread
invariant-loop-thread l = record {
  passed : AllPassed l.pairs l.next l.marks;
  weaving : IsWeaving l.log l.pairs l.exit l.next l.schedule;
}

abbrev pub decreases-loop-thread : goal.decreases-loop-thread
decreases-loop-thread l = left l.log l.next (length l.log.threads)

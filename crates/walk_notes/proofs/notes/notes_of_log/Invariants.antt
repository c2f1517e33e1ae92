use Rattle.std.proofs.Common.{◌≡◌, length}
use Rattle.walk_notes.proofs.RowLemmas.{RowsSoFar}
use Rattle.walk_notes.proofs.notes.notes_of_log.Given as goal

abbrev pub invariant-loop-thread : goal.invariant-loop-thread
invariant-loop-thread l = RowsSoFar l.image l.log l.thread l.all × (length l.all ≡ l.thread)

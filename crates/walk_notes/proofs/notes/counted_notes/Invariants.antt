use Rattle.std.proofs.Common.{◌≤◌}
use Rattle.walk_notes.proofs.RowLemmas.{RowSoFar}
use Rattle.walk_notes.specs.Telling.{AreAhead}
use Rattle.walk_notes.proofs.notes.counted_notes.Given as goal

abbrev pub invariant-loop-step : goal.invariant-loop-step
invariant-loop-step l = RowSoFar l.image l.log l.thread l.step l.notes l.items × (l.items ≤ l.step) × AreAhead l.log.calls l.thread l.step l.calls

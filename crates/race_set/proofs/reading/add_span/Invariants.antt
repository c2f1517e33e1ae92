use Rattle.std.proofs.Common.{◌≡◌, ℕ}
use Rattle.race_set.specs.Places.{recorded_in}
use Rattle.race_set.specs.Readings.{AddsReadings, AreBefore}
use Rattle.race_set.proofs.Gathered.{Numbered}
use Rattle.race_set.proofs.reading.add_span.Given as goal

abbrev pub invariant-loop-i : goal.invariant-loop-i
invariant-loop-i l =
    AddsReadings l.shapes (recorded_in l.recorded) (λ (x b : ℕ). (x ≡ l.reader) × Numbered l.fn.span l.i b)
    l.initial.readings l.readings
    × (AreBefore l.shapes l.reader 0 l.initial.readings → AreBefore l.shapes l.reader l.i l.readings)

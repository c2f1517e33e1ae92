use Rattle.std.proofs.Common.{[]}
use Rattle.race_set.specs.Places.{recorded_in}
use Rattle.race_set.specs.Readings.{AddsReadings, AreBefore}
use Rattle.race_set.proofs.Gathered.{Upto}
use Rattle.race_set.proofs.reading.readings_of.Given as goal

abbrev pub invariant-loop-reader : goal.invariant-loop-reader
invariant-loop-reader l =
    AddsReadings l.shapes (recorded_in l.recorded) (Upto l.shapes (recorded_in l.recorded) l.reader) [] l.readings
    × AreBefore l.shapes l.reader 0 l.readings

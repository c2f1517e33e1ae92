use Rattle.std.proofs.Common.{ℕ}
use Rattle.odr_log.specs.declared.log.Log.{Log}
use Rattle.happens_before.specs.Table.{IsOrderOf}
use Rattle.race_set.specs.Accesses.{AreCounted}
use Rattle.read_spots.specs.Spots.{AreSpotsBefore, sought}
use Rattle.read_spots.proofs.spots.spots_of.Given as goal

abbrev pub invariant-loop-writer : goal.invariant-loop-writer
invariant-loop-writer l =
    (log : Log) → IsOrderOf l.order log → AreCounted log l.shapes
    → AreSpotsBefore (sought log l.accesses l.shapes l.places l.reader l.index) l.writer 0 l.spots

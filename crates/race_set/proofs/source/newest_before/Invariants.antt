use Rattle.race_set.specs.Places.{recorded_in}
use Rattle.race_set.proofs.NewestWrite.{IsNewestOf}
use Rattle.race_set.proofs.source.newest_before.Given as goal

abbrev pub invariant-loop-other : goal.invariant-loop-other
invariant-loop-other l = IsNewestOf l.shapes (recorded_in l.recorded) l.byte l.reader l.other l.newest

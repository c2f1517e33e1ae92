use Rattle.std.proofs.Common.{◌≡◌, ℕ, ◌<◌, true}
use Rattle.race_set.specs.Bytes.{may_write}
use Rattle.race_set.specs.Accesses.{shape_at}
use Rattle.race_set.specs.Places.{recorded_in, is_after}
use Rattle.race_set.proofs.source.is_initial.Given as goal

abbrev pub invariant-loop-other : goal.invariant-loop-other
invariant-loop-other l =
    (k : ℕ) → k < l.other → may_write l.byte (shape_at l.shapes k) ≡ true → is_after (recorded_in l.recorded) l.reader k ≡ true

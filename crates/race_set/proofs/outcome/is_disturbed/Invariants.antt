use Rattle.std.proofs.Common.{◌≡◌, ℕ, ◌<◌, true}
use Rattle.race_set.specs.Places.{recorded_in}
use Rattle.race_set.specs.Outcomes.{disturbs}
use Rattle.race_set.proofs.outcome.is_disturbed.Given as goal

abbrev pub invariant-loop-other : goal.invariant-loop-other
invariant-loop-other l = (k : ℕ) → k < l.other → disturbs l.shapes (recorded_in l.recorded) l.outcome k ≡ true → ⊥

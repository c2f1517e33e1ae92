use Rattle.std.proofs.Common.{◌≡◌, ℕ, ◌<◌}
use Rattle.race_set.specs.Accesses.{shape_at}
use Rattle.read_spots.proofs.source.find_access.Given as goal

abbrev pub invariant-loop-y : goal.invariant-loop-y
invariant-loop-y l = (k : ℕ) → k < l.y → (shape_at l.shapes k).pos ≡ l.pos → ⊥

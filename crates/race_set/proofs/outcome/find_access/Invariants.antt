use Rattle.std.proofs.Common.{◌≡◌, ℕ, ◌<◌}
use Rattle.race_set.specs.Accesses.{shape_at}
use Rattle.race_set.proofs.outcome.find_access.Given as goal

abbrev pub invariant-loop-i : goal.invariant-loop-i
invariant-loop-i l = (k : ℕ) → k < l.i → (shape_at l.shapes k).pos ≡ l.pos → ⊥

use Rattle.std.specs.Prelude.{◌≡◌, ℕ, ◌<◌}
use Rattle.order_vars.specs.Chosen.{position}
use Rattle.order_vars.proofs.order_vars.find_in.Given as goal

abbrev pub invariant-loop-place : goal.invariant-loop-place
invariant-loop-place l = (k : ℕ) → k < l.place → position l.chosen k ≡ l.at → ⊥

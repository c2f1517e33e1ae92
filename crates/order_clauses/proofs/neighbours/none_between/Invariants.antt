use Rattle.std.proofs.Common.{◌≡◌, ℕ, ◌<◌, true}
use Rattle.order_clauses.specs.Grid.{recorded_in}
use Rattle.order_clauses.proofs.neighbours.none_between.Given as goal

abbrev pub invariant-loop-m : goal.invariant-loop-m
invariant-loop-m l = (k : ℕ) → k < l.m → recorded_in l.table l.a k ≡ true → recorded_in l.table k l.b ≡ true → ⊥

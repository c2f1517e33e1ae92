use Rattle.std.proofs.Common.{ℕ, ◌<◌, ◌≤◌}
use Rattle.std.specs.Prelude.{IsSome}
use Rattle.sat_trail.specs.Paths.{value_in}
use Rattle.sat_core.proofs.picking.pick_from.Given as goal

abbrev pub invariant-loop-var : goal.invariant-loop-var
invariant-loop-var l = (x : ℕ) → l.from ≤ x → x < l.var → IsSome (value_in l.engine.steps x)

use Rattle.std.proofs.Common.{◌≡◌, ℕ, ◌<◌, Some, slice_get}
use Rattle.std.specs.Prelude.{IsSome}
use Rattle.sat_trail.specs.Paths.{value_in}
use Rattle.sat_core.proofs.picking.pick_first.Given as goal

abbrev pub invariant-loop-var : goal.invariant-loop-var
invariant-loop-var l = (i : ℕ) (x : ℕ) → i < l.var-index → slice_get l.first i ≡ Some x → IsSome (value_in l.engine.steps x)

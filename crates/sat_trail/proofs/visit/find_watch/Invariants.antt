use Rattle.std.proofs.Common.{◌≡◌, ◌≢◌, ℕ, ◌<◌, Some, slice_get}
use Rattle.clause_store.specs.declared.lit.Lit.{Lit}
use Rattle.clause_store.specs.UnitRule.{MakesFalse}
use Rattle.sat_trail.specs.Paths.{value_in}
use Rattle.sat_trail.proofs.visit.find_watch.Given as goal

abbrev pub invariant-loop-lit : goal.invariant-loop-lit
invariant-loop-lit l = (i : ℕ) (k : Lit) → i < l.lit-index → slice_get l.clause i ≡ Some k → k ≢ l.stay → MakesFalse (value_in l.trail.steps) k

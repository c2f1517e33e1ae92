use Rattle.std.proofs.Common.{◌≡◌, ℕ, ◌<◌, Some, slice_get}
use Rattle.clause_store.specs.declared.lit.Lit.{Lit}
use Rattle.clause_store.specs.UnitRule.{LeavesOpen}
use Rattle.sat_trail.specs.Paths.{value_in}
use Rattle.clause_check.proofs.base.first_open.Given as goal

abbrev pub invariant-loop-lit : goal.invariant-loop-lit
invariant-loop-lit l = (i : ℕ) (k : Lit) → i < l.lit-index → slice_get l.line i ≡ Some k → LeavesOpen (value_in l.engine.steps) k → ⊥

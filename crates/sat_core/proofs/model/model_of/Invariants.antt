use Rattle.std.proofs.Common.{◌≡◌, ℕ, ◌<◌, Bool, false, Some, length, slice_index_or}
use Rattle.sat_trail.specs.Paths.{value_in}
use Rattle.sat_core.proofs.model.model_of.Given as goal

abbrev pub invariant-loop-var : goal.invariant-loop-var
invariant-loop-var l =
    record {
      count : length l.values.items ≡ l.var;
      values : (x : ℕ) (b : Bool) → x < l.var → value_in l.engine.steps x ≡ Some b → slice_index_or l.values.items x false ≡ b;
    }

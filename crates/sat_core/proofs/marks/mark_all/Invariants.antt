use Rattle.std.proofs.Common.{◌≡◌, ℕ, ◌<◌, Some, length, slice_get}
use Rattle.clause_store.specs.declared.lit.Lit.{Lit}
use Rattle.sat_core.specs.Marks.{IsMarked}
use Rattle.sat_core.proofs.marks.mark_all.Given as goal

abbrev pub invariant-loop-lit : goal.invariant-loop-lit
invariant-loop-lit l =
    record {
      same_length : length l.marks.items ≡ length l.initial.marks.items;
      kept : (x : ℕ) → IsMarked l.initial.marks.items x → IsMarked l.marks.items x;
      all : (i : ℕ) (k : Lit) → i < l.lit-index → slice_get l.clause i ≡ Some k → IsMarked l.marks.items k.var;
    }

use Rattle.std.specs.Prelude.{◌≡◌, ℕ, ◌+◌, ◌<◌, slice_get, Some}
use Rattle.odr_log.specs.declared.log.Call.TheVariants as call
use Rattle.odr_log.specs.declared.log.CallRec.{CallRec}
use Rattle.rv_model.specs.Run.{logged}
use Rattle.schedule_rows.proofs.fitting.exits_end.Given as goal

abbrev pub invariant-loop-made : goal.invariant-loop-made
invariant-loop-made l =
    (k : ℕ) (r : CallRec) → k < l.made-index → slice_get l.log.calls k ≡ Some r → (code : ℕ) → r.call ≡ call.Exit code
    → r.at + 1 ≡ (logged l.log r.tid).steps

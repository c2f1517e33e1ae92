use Rattle.std.specs.Prelude.{ℕ, ◌<◌, slice_index_or}
use Rattle.odr_log.specs.declared.log.Pos.{Pos}
use Rattle.schedule_rows.specs.Fitting.{GoesOn}
use Rattle.schedule_rows.proofs.fitting.all_go_on.Given as goal

abbrev pub invariant-loop-pair : goal.invariant-loop-pair
invariant-loop-pair l = (k : ℕ) (d : Pos × Pos) → k < l.pair-index → GoesOn l.log (slice_index_or l.decided k d)

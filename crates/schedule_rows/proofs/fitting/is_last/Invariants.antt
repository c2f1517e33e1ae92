use Rattle.std.specs.Prelude.{ℕ, ◌<◌, slice_index_or}
use Rattle.odr_log.specs.declared.log.Pos.{Pos}
use Rattle.schedule_extract.specs.Going.{Precedes}
use Rattle.schedule_rows.proofs.fitting.is_last.Given as goal

abbrev pub invariant-loop-earlier : goal.invariant-loop-earlier
invariant-loop-earlier l = (i : ℕ) (d : Pos) → i < l.earlier → Precedes l.log l.decided (slice_index_or l.steps l.at d) (slice_index_or l.steps i d) → ⊥

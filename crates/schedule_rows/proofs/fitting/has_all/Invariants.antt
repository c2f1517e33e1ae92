use Rattle.std.specs.Prelude.{◌<◌, Contains}
use Rattle.odr_log.specs.declared.log.Pos.{Pos}
use Rattle.rv_model.specs.RecordedOrder.{Counted}
use Rattle.schedule_rows.proofs.fitting.has_all.Given as goal

abbrev pub invariant-loop-thread : goal.invariant-loop-thread
invariant-loop-thread l = (p : Pos) → p.thread < l.thread → Counted l.log p → Contains l.steps p

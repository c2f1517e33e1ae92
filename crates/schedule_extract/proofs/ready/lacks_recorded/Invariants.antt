use Rattle.std.specs.Prelude.{ℕ, ◌<◌}
use Rattle.rv_model.specs.RecordedOrder.{RecordedOrder}
use Rattle.schedule_extract.specs.Going.{head}
use Rattle.schedule_extract.proofs.ready.lacks_recorded.Given as goal

abbrev pub invariant-loop-thread : goal.invariant-loop-thread
invariant-loop-thread l = (t : ℕ) → t < l.thread → RecordedOrder l.log (head l.next t) l.at → ⊥

use Rattle.std.specs.Prelude.{ℕ, Option, Some, None, IfNone}
use Rattle.odr_log.specs.declared.log.Pos.{Pos}
use Rattle.rv_model.specs.RecordedOrder.{RecordedOrder}
use Rattle.schedule_extract.specs.Going.{HasAll, head}
use Rattle.schedule_extract.proofs.Standing.{has_all}
use Rattle.schedule_extract.proofs.ready.lacks.Goals as goal

then_none : (X Y : Type 0) (o : Option Pos) → (X → Y) → IfNone o X → IfNone o Y
then_none X Y None f x = f x
then_none X Y (Some p) f x = x

pub returns-in-None-clause-none : goal.returns-in-None-clause-none
returns-in-None-clause-none c =
    then_none ((t : ℕ) → RecordedOrder c.args.log.now (head c.args.next.now t) (head c.args.next.now c.args.thread) → ⊥)
    (HasAll c.args.log.now c.args.pairs.now c.args.next.now (head c.args.next.now c.args.thread)) c.lacks_recorded.result
    (has_all c.args.log.now c.args.pairs.now c.args.next.now (head c.args.next.now c.args.thread) c.in-None.ensures.none) c.lacks_recorded.ensures.none

use Rattle.std.proofs.Common.{sym, ◌∙◌}
use Rattle.std.proofs.lemmas.Bool.{false≢true}
use Rattle.walk_orders.proofs.Weaving.{from_counted, to_counted}
use Rattle.schedule_rows.proofs.fitting.is_recorded.Goals as goal
use Rattle.schedule_rows.proofs.fitting.is_recorded.Goals.{else-is_counted-via-then-is_counted+else-is_counted-2, else-is_counted-via-else-is_counted}

pub returns : goal.returns
returns c = λ order. elim c.else-is_counted.branch [
  | else-is_counted-via-then-is_counted+else-is_counted-2 w ↦
      absurd (false≢true (sym w.if-is_counted-2.false ∙ w.is_counted-then-is_counted.ensures.1 (to_counted c.args.log.now c.args.first c.args.second order)))
  | else-is_counted-via-else-is_counted w ↦
      absurd (false≢true (sym w.if-is_counted.false ∙ c.is_counted.ensures.1 (from_counted c.args.log.now c.args.first c.args.second order)))
]

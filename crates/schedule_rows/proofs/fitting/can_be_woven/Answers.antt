use Rattle.std.specs.Prelude.{refl}
use Rattle.schedule_rows.proofs.Ranks.{can_by}
use Rattle.schedule_rows.proofs.fitting.can_be_woven.Goals as goal

pub returns-then-all_go_on : goal.returns-then-all_go_on
returns-then-all_go_on c = λ ends.
    can_by c.args.log.now c.args.decided.now c.args.steps.now (c.if-not-has_all.ensures refl) (c.if-not-are_in_order.ensures refl)
    (c.if-all_go_on.ensures refl) (c.exits_end.ensures ends)

use Rattle.std.proofs.Common.{◌∙◌}
use Rattle.order_clauses.specs.declared.order_lit.OrderLit.TheVariants as order_lit
use Rattle.outcome_clauses.proofs.Affirming.{either_more, either_other}
use Rattle.outcome_clauses.proofs.none_of.either_of.Goals as goal
use Rattle.outcome_clauses.proofs.none_of.either_of.Goals.{in-Is+in_ok-push-2, in_default}

pub loop-condition-preserved : goal.loop-condition-preserved
loop-condition-preserved c =
    elim c.match-condition.branch [
      | in-Is+in_ok-push-2 w ↦
          either_more c.args.literal c.args.conditions.now c.loop-condition.condition-index order_lit.Always w.in-Is.lit c.loop-condition.clause
          c.match-condition.clause c.loop-condition-test.true w.in-Is.is (w.clause-is ∙ w.in_ok-push-2.ensures) c.loop-condition.invariant
      | in_default w ↦
          rw w.clause-is
          (either_other c.args.literal c.args.conditions.now c.loop-condition.condition-index order_lit.Always c.loop-condition.clause
          c.loop-condition-test.true w.in_default.not-Is c.loop-condition.invariant)
    ]

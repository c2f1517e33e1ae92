use Rattle.std.proofs.Common.{arith}
use Rattle.order_clauses.specs.declared.order_lit.OrderLit.TheVariants as order_lit
use Rattle.outcome_clauses.proofs.Refuting.{refutes_more}
use Rattle.outcome_clauses.proofs.none_of.add_refutations.Goals as goal

pub loop-condition-preserved : goal.loop-condition-preserved
loop-condition-preserved c =
    refutes_more c.args.clauses.now c.loop-condition.clauses c.add_refutation.new.clauses c.args.literal c.args.conditions.now
    c.loop-condition.condition-index order_lit.Always (omega arith) c.loop-condition.invariant c.in_ok-add_refutation.ensures.ok

use Rattle.std.proofs.lemmas.Result.{IfOk-weaker}
use Rattle.order_clauses.specs.declared.order_lit.OrderLit.{OrderLit}
use Rattle.source_clauses.specs.Conditions.{IsBoth}
use Rattle.outcome_clauses.specs.Failures.{IsEnding}
use Rattle.outcome_clauses.proofs.Ending.{ending_of}
use Rattle.outcome_clauses.proofs.failures.ending.Goals as goal

pub returns-clause-ending : goal.returns-clause-ending
returns-clause-ending c =
    let old = c.args.clauses.now in
    let middle = c.both.new.clauses in
    let new = c.both-2.new.clauses in
    let ender = c.args.ender in
    IfOk-weaker c.both-2.result (IsBoth middle new c.in_ok-between.between ender.hit) (IsEnding old new ender)
    (λ (out : OrderLit). ending_of old middle new ender c.in_ok-between.between out c.in_ok-between.ensures.both) c.both-2.ensures.both

use Rattle.std.proofs.Common.{List, subst}
use Rattle.order_clauses.specs.declared.order_lit.OrderLit.{OrderLit}
use Rattle.outcome_clauses.specs.NoneOf.{IsNoneOf}
use Rattle.outcome_clauses.proofs.Adding.{outcome_added}
use Rattle.outcome_clauses.proofs.outcomes.add_outcome.Goals as goal

pub returns-clause-ok : goal.returns-clause-ok
returns-clause-ok c =
    outcome_added c.args.clauses.now c.failures_of.new.clauses c.add_none_of.new.clauses c.args.sc.now c.in_ok-failures.failures c.requires.known
    c.in_ok-failures.ensures.failures
    (subst (λ (cs : List OrderLit). IsNoneOf c.failures_of.new.clauses c.add_none_of.new.clauses c.args.sc.now.outcome cs) c.as_slice.ensures
    c.in_ok-add_none_of.ensures.ok)

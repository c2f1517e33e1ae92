use Rattle.std.proofs.Common.{sym, subst}
use Rattle.order_clauses.specs.declared.order_lit.OrderLit.{OrderLit}
use Rattle.order_clauses.specs.declared.order_lit.OrderLit.TheVariants as order_lit
use Rattle.source_clauses.specs.Conditions.{IsBoth}
use Rattle.source_clauses.proofs.Gathered.{always_second, never_second, is_known_order}
use Rattle.source_clauses.proofs.both.both_of_literal.Goals as goal

pub returns-in-Always-clause-both : goal.returns-in-Always-clause-both
returns-in-Always-clause-both c =
    subst (λ (o : OrderLit). IsBoth c.args.clauses.now c.args.clauses.now (order_lit.Is c.args.one) o (order_lit.Is c.args.one)) (sym c.in-Always.is)
    (always_second c.args.clauses.now (order_lit.Is c.args.one) (is_known_order c.args.clauses.now.vars c.args.one c.requires.one_known))

pub returns-in-Never-clause-both : goal.returns-in-Never-clause-both
returns-in-Never-clause-both c =
    subst (λ (o : OrderLit). IsBoth c.args.clauses.now c.args.clauses.now (order_lit.Is c.args.one) o order_lit.Never) (sym c.in-Never.is)
    (never_second c.args.clauses.now (order_lit.Is c.args.one))

use Rattle.std.proofs.Common.{sym, subst}
use Rattle.order_clauses.specs.declared.order_lit.OrderLit.{OrderLit}
use Rattle.order_clauses.specs.declared.order_lit.OrderLit.TheVariants as order_lit
use Rattle.source_clauses.specs.Conditions.{IsBoth}
use Rattle.source_clauses.proofs.Gathered.{always_first, never_first}
use Rattle.source_clauses.proofs.both.both.Goals as goal

pub returns-in-Always-clause-both : goal.returns-in-Always-clause-both
returns-in-Always-clause-both c =
    subst (λ (o : OrderLit). IsBoth c.args.clauses.now c.args.clauses.now o c.args.second c.args.second) (sym c.in-Always.is)
    (always_first c.args.clauses.now c.args.second c.requires.second_known)

pub returns-in-Never-clause-both : goal.returns-in-Never-clause-both
returns-in-Never-clause-both c =
    subst (λ (o : OrderLit). IsBoth c.args.clauses.now c.args.clauses.now o c.args.second order_lit.Never) (sym c.in-Never.is) (never_first c.args.clauses.now c.args.second)

use Rattle.std.proofs.Common.{◌∙◌, sym}
use Rattle.clause_check.proofs.Basing as basing
use Rattle.clause_check.proofs.base.settle.Goals as goal

pub returns-then-is_some : goal.returns-then-is_some
returns-then-is_some c =
    basing.settled-some c.args.engine c.in_ok-next.next c.in_ok-next.clash c.requires c.in_ok-next.ensures c.len-steps.ensures.walk (sym c.is_some.ensures ∙ c.if-is_some.true)

pub returns : goal.returns
returns c = basing.settled-none c.args.engine c.in_ok-next.next c.in_ok-next.clash c.requires c.in_ok-next.ensures (sym c.is_some.ensures ∙ c.if-is_some.false)

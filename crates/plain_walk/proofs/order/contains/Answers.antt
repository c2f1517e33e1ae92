use Rattle.std.proofs.Common.{sym, ◌∙◌}
use Rattle.plain_walk.proofs.OrderLemmas.{in_by_any, any_by_in}
use Rattle.plain_walk.proofs.order.contains.Goals as goal

pub returns : goal.returns
returns c = (
  λ t. in_by_any c.args.step c.args.steps.now (sym c.any_is.ensures ∙ t),
  λ i. c.any_is.ensures ∙ any_by_in c.args.step c.args.steps.now i,
)

use Rattle.std.specs.Prelude.{◌≡◌, ℕ, Option}
use Rattle.std.proofs.Common.{sym, ◌∙◌, ap, subst}
use Rattle.happens_before.specs.declared.table.ThreadCalls.{ThreadCalls}
use Rattle.happens_before.specs.Reach.{Called, Made, IsGreatest}
use Rattle.happens_before.specs.Table.{maker_number}
use Rattle.happens_before.proofs.TableLemmas.{table_at, maker_greatest, greatest_either}
use Rattle.happens_before.proofs.order.Order.arrival.Goals as goal

pub returns : goal.returns
returns c =
    λ log is counted.
    let made : c.maker.result ≡ maker_number log c.args.at.thread =
    c.maker.ensures ∙ ap (λ (t : ThreadCalls). t.maker) (table_at c.args.self.now log c.args.at is counted) in
    let maker : IsGreatest (Made log c.args.at.thread) c.maker.result =
    subst (λ (o : Option ℕ). IsGreatest (Made log c.args.at.thread) o) (sym made) (maker_greatest log c.args.at.thread) in
    rw c.greater.ensures
    (greatest_either (Called log c.args.at) (Made log c.args.at.thread) c.last_call.result c.maker.result (c.last_call.ensures log is counted) maker)

use Rattle.std.proofs.Common.{◌≡◌, ◌<◌, ◌^◌, sym, ◌∙◌, subst}
use Rattle.bv_terms.specs.Values.{Assignment, value_at}
use Rattle.bv_rewrite.proofs.Replacing.{view_agrees}
use Rattle.bv_rewrite.proofs.view.View.of.Goals as goal

pub returns-clause-agrees : goal.returns-clause-agrees
returns-clause-agrees c =
    let nodes = c.args.pool.now in
    let right = c.args.right.number in
    let one_width : c.width-right_width.result ≡ c.width-width.result = c.width-right_width.ensures.width ∙ (sym c.requires.one_width ∙ sym c.width-width.ensures.width) in
    let right_below = subst (λ n. (w : Assignment) → value_at w nodes right < 2 ^ n) one_width c.width-right_width.ensures.below in
    view_agrees nodes c.args.op c.args.left.number right c.width-width.result c.constant.result c.constant-2.result c.width-width.ensures.below right_below c.constant.ensures.value c.constant-2.ensures.value

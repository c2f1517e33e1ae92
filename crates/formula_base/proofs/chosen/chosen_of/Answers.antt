use Rattle.std.proofs.Common.{◌∙◌}
use Rattle.formula_base.specs.Asked.{is_asked}
use Rattle.formula_base.proofs.Asking.{none_more, one_more}
use Rattle.formula_base.proofs.chosen.chosen_of.Goals.{in-Some+in_ok-push, in_default}
use Rattle.formula_base.proofs.chosen.chosen_of.Goals as goal

pub loop-number-preserved : goal.loop-number-preserved
loop-number-preserved c =
    let test = is_asked c.args.shapes.now c.args.needed.now c.args.also.now in
    elim c.match-asked_at.branch [
      | in-Some+in_ok-push w ↦ one_more c.args.shapes.now test c.loop-number.number c.asked_at.result _ c.loop-number.chosen c.match-asked_at.chosen
          c.loop-number-test.true c.asked_at.ensures w.in-Some.is (w.chosen-is ∙ w.in_ok-push.ensures) c.loop-number.invariant
      | in_default w ↦ none_more c.args.shapes.now test c.loop-number.number c.asked_at.result c.loop-number.chosen c.match-asked_at.chosen
          c.loop-number-test.true c.asked_at.ensures w.in_default.is w.chosen-is c.loop-number.invariant
    ]

use Rattle.std.proofs.Common.{ap₂, ◌∙◌}
use Rattle.std.proofs.lemmas.Result.{IfOk-weaker}
use Rattle.clap.specs.Simple.{with_rule}
use Rattle.odr_words.proofs.split.splitter.Goals as goal

pub returns : goal.returns
returns c =
    let one = c.in_ok-arg.ensures.shape c.option-seed.ensures.own ∙ ap₂ with_rule c.in_ok-places.ensures c.option-seed.ensures.rule in
    let two = c.in_ok-arg-2.ensures.shape c.option-limit.ensures.own ∙ ap₂ with_rule one c.option-limit.ensures.rule in
    let three = c.in_ok-arg-3.ensures.shape c.option-steps.ensures.own ∙ ap₂ with_rule two c.option-steps.ensures.rule in
    IfOk-weaker c.arg-4.result _ _ (λ r h. h.shape c.option-input.ensures.own ∙ ap₂ with_rule three c.option-input.ensures.rule) c.arg-4.ensures

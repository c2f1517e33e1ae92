use Rattle.std.proofs.Common.{ap, ◌∙◌, map}
use Rattle.std.proofs.lemmas.Result.{IfErr-weaker}
use Rattle.std.specs.String.{string_bytes}
use Rattle.clap.specs.Takes.{takes}
use Rattle.odr_words.proofs.split.matches.Goals as goal

pub returns-clause-passes : goal.returns-clause-passes
returns-clause-passes c =
    IfErr-weaker c.try_get_matches_from.result _ _
    (λ e h t. h (ap (λ a. takes a (map string_bytes c.args.words.now)) c.in_ok-command.ensures ∙ t)) c.try_get_matches_from.ensures.passes

-- The command that splits words: three places for positional words, and every option.
use Rattle.std.specs.Prelude.{true, codes, Some}
use Rattle.clap.specs.Walk.{Rule, Text}
use Rattle.clap.specs.Simple.{App, new_app, new_rule, on_top, with_rule}

abbrev pub option_rule : Text → Rule
option_rule name = record (new_rule name) { long = Some name }

abbrev pub bare_app : App
bare_app = on_top (λ s. record s { disable_help_flag = true }) (new_app (codes "odr"))

abbrev pub places_app : App
places_app = with_rule (with_rule (with_rule bare_app (new_rule (codes "first")))
    (new_rule (codes "second"))) (new_rule (codes "third"))

abbrev pub words_app : App
words_app = with_rule (with_rule (with_rule (with_rule places_app (option_rule (codes "seed")))
    (option_rule (codes "limit"))) (option_rule (codes "steps"))) (option_rule (codes "input"))

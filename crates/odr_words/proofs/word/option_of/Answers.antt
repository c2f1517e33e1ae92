use Rattle.std.proofs.Common.{None, refl, arith}
use Rattle.std.proofs.lemmas.Str.Pattern.{split_once_first}
use Rattle.odr_words.specs.Arguments.{is_equals_sign}
use Rattle.odr_words.proofs.WordLemmas.{list_any-none}
use Rattle.odr_words.proofs.word.option_of.Goals as goal

pub returns-in-None : goal.returns-in-None
returns-in-None c =
    let place = split_once_first 61 c.args.text.now None c.in-None.ensures.cases (omega arith) in
    rw (list_any-none is_equals_sign c.args.text.now place) refl

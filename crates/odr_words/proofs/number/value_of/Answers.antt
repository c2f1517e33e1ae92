use Rattle.odr_words.proofs.NumberLemmas.{value-decimal}
use Rattle.odr_words.proofs.number.value_of.Goals as goal

pub returns : goal.returns
returns c = rw c.ok.ensures.value (value-decimal c.args.text.now c.parse.result c.parse.ensures.value.0 c.requires)

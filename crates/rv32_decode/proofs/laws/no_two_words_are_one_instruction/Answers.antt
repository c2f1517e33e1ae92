-- The law of the table.
use Rattle.rv32_decode.proofs.OneWord.{one_word}
use Rattle.rv32_decode.proofs.laws.no_two_words_are_one_instruction.Goals as goal

pub returns : goal.returns
returns c = one_word

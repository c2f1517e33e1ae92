use Rattle.rv32_text.proofs.OneWord.{file_has_word}
use Rattle.rv32_text.proofs.ReadInstructions as read
use Rattle.rv32_text.proofs.laws.text_is_assembled.Goals as goal

pub returns-clause-program : goal.returns-clause-program
returns-clause-program c = read.text_is_assembled

pub returns-clause-word : goal.returns-clause-word
returns-clause-word c = file_has_word c.no_two_words_are_one_instruction.ensures

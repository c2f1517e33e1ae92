-- The file of an instruction's text has its word.
use Rattle.std.proofs.Common.{◌≡◌, ℕ, ◌^◌, ◌<◌, List, [], ◌∷◌, Some, sym, ap, ◌∙◌, subst, append-nil}
use Rattle.std.specs.Prelude.{flat_map}
use Rattle.rv32_decode.specs.declared.instr.Instr.{Instr}
use Rattle.rv32_decode.specs.Table.{decode_of}
use Rattle.rv32_decode.specs.Laws.{NoTwoWordsAreOneInstruction}
use Rattle.rv32_asm.specs.Assembly.{Program}
use Rattle.rv32_asm.specs.File.{word, file_of, AreWordsOf, IsFileOf}
use Rattle.rv32_text.specs.Laws.{FileHasWord}
use Rattle.rv32_text.proofs.ReadInstructions.{text_is_assembled}

one_word : NoTwoWordsAreOneInstruction → (i : Instr) (w : ℕ) (words : List ℕ) → w < 2 ^ 32 → decode_of w ≡ Some i → AreWordsOf (i ∷ []) words → flat_map word words ≡ word w
one_word unique i w [] below decoded are = absurd are
one_word unique i w (v ∷ []) below decoded are = append-nil (word v) ∙ ap word (unique v w i are.0 below are.1 decoded)
one_word unique i w (v ∷ u ∷ words) below decoded are = absurd are.2

alone : Instr → Program
alone i = record { code = i ∷ []; data_bytes = [] }

pub file_has_word : NoTwoWordsAreOneInstruction → FileHasWord
unfolding alone
file_has_word unique i w file valid below decoded made =
    let same : made.program ≡ alone i = let whole = sym made.assembled ∙ text_is_assembled i valid in cc in
    let of_it : IsFileOf (alone i) file = subst (λ (p : Program). IsFileOf p file) same made.of_program in
    of_it.bytes ∙ ap (λ (text : List ℕ). file_of text []) (of_it.of_code.bytes ∙ one_word unique i w of_it.of_code.words below decoded of_it.of_code.are_words)

-- What holds of the text of every instruction.
use Rattle.std.specs.Prelude.{◌≡◌, ℕ, ◌^◌, ◌<◌, List, [], ◌∷◌, Some, Ok}
use Rattle.rv32_decode.specs.declared.instr.Instr.{Instr}
use Rattle.rv32_decode.specs.Table.{decode_of}
use Rattle.rv32_decode.specs.Valid.{IsValid}
use Rattle.rv32_asm.specs.Assembly.{assembly_of}
use Rattle.rv32_asm.specs.File.{word, file_of, AsmFile}
use Rattle.rv32_text.specs.Text.{instr_text_of}

-- As a text of one line it is a program of this instruction and no data.
abbrev pub TextIsAssembled : Type 0
TextIsAssembled = (i : Instr) → IsValid i → assembly_of (instr_text_of i) ≡ Ok (record { code = i ∷ []; data_bytes = [] })

-- Its file has the instruction's word as text part and no data part.
abbrev pub FileHasWord : Type 0
FileHasWord =
    (i : Instr) (w : ℕ) (file : List ℕ) → IsValid i → w < 2 ^ 32 → decode_of w ≡ Some i →
    AsmFile (instr_text_of i) file → file ≡ file_of (word w) []

-- The ELF file of a text (System V ABI, "ELF Header" and "Program Header").
use Rattle.std.specs.Prelude.{◌≡◌, ℕ, ◌+◌, ◌^◌, ◌<◌, ◌==◌, List, [], ◌∷◌, ◌++◌, length, replicate, flat_map, Some, Result, Ok, Err, if◌then◌else◌}
use Rattle.std.specs.Int.{w16, w32, to_le_bytes}
use Rattle.rv32_decode.specs.declared.instr.Instr.{Instr}
use Rattle.rv32_decode.specs.Table.{decode_of}
use Rattle.rv32_asm.specs.declared.fault.AsmFault.{AsmFault}
use Rattle.rv32_asm.specs.Assembly.{Stops, Program, assembly_of}

abbrev pub half : ℕ → List ℕ
half n = to_le_bytes w16 n

abbrev pub word : ℕ → List ℕ
word n = to_le_bytes w32 n

-- 32 bits, little-endian, version 1
abbrev pub identification : List ℕ
identification = 0x7f ∷ 0x45 ∷ 0x4c ∷ 0x46 ∷ 1 ∷ 1 ∷ 1 ∷ replicate 9 0

-- an executable file for RISC-V that begins at 0x10000, with so many program headers behind this header
abbrev pub file_header : ℕ → List ℕ
file_header segments =
    identification ++ half 2 ++ half 243 ++ word 1 ++ word 0x10000 ++ word 52 ++ word 0 ++ word 0 ++
    half 52 ++ half 32 ++ half segments ++ half 0 ++ half 0 ++ half 0

-- a segment to be loaded: its offset in the file, address, size and rights
abbrev pub program_header : ℕ → ℕ → ℕ → ℕ → List ℕ
program_header offset address size flags =
    flat_map word (1 ∷ offset ∷ address ∷ address ∷ size ∷ size ∷ flags ∷ 4 ∷ [])

-- the text is readable and executable, the data readable and writable
abbrev pub file_of : List ℕ → List ℕ → List ℕ
file_of text data_bytes =
    if length data_bytes == 0
    then file_header 1 ++ program_header 84 0x10000 (length text) 5 ++ text
    else file_header 2 ++ program_header 116 0x10000 (length text) 5 ++
    program_header (116 + length text) 0x100000 (length data_bytes) 6 ++ text ++ data_bytes

-- Words of instructions, in their order. An instruction has one word.
abbrev pub AreWordsOf : List Instr → List ℕ → Type 0
AreWordsOf [] [] = Unit {0}
AreWordsOf (i ∷ code) (w ∷ words) = (w < 2 ^ 32) × (decode_of w ≡ Some i) × AreWordsOf code words
AreWordsOf code words = ⊥

-- new is old with the words of instructions behind it
pub record AppendsCode (code : List Instr) (old new : List ℕ) : Type 0 where
  pub words : List ℕ
  pub are_words : AreWordsOf code words
  pub bytes : new ≡ old ++ flat_map word words

-- What a function returned is the text part of the instructions that are given, or their fault, unless memory ran out.
abbrev pub GivesText : Result (List ℕ) AsmFault → Result (List Instr) AsmFault → Type 0
GivesText (Ok text) given = (code : List Instr) × (given ≡ Ok code) × AppendsCode code [] text
GivesText (Err fault) given = Stops fault given

-- the file of a program
pub record IsFileOf (program : Program) (file : List ℕ) : Type 0 where
  pub text : List ℕ
  pub of_code : AppendsCode program.code [] text
  pub bytes : file ≡ file_of text program.data_bytes

-- the file of a text
pub record AsmFile (text file : List ℕ) : Type 0 where
  pub program : Program
  pub assembled : assembly_of text ≡ Ok program
  pub of_program : IsFileOf program file

-- the fault of a text
abbrev pub IsRefused : List ℕ → AsmFault → Type 0
IsRefused text fault = Stops fault (assembly_of text)

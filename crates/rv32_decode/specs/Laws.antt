-- What holds of the instruction table as a whole.
use Rattle.std.specs.Prelude.{◌≡◌, ℕ, ◌^◌, ◌<◌, IsTrue, OnSome, List, Some, slice_get}
use Rattle.rv32_decode.specs.declared.instr.Instr.{Instr}
use Rattle.rv32_decode.specs.Table.{Row, fits, rows, decode_of}

-- The word fits the row at this place of a table.
pub record FitsAt (table : List Row) (place word : ℕ) : Type 0 where
  pub the_row : Row
  pub there : slice_get table place ≡ Some the_row
  pub fit : IsTrue (fits the_row word)

-- Rows of the table that fit a word stand at one place.
abbrev pub AtMostOneRowFits : Type 0
AtMostOneRowFits = (word first second : ℕ) → FitsAt rows first word → FitsAt rows second word → first ≡ second

-- A word that fits a row of the table is the instruction that the row reads.
abbrev pub RowThatFitsIsRead : Type 0
RowThatFitsIsRead = (word place : ℕ) (here : FitsAt rows place word) → decode_of word ≡ Some (here.the_row.read word)

-- A word that is an instruction fits a row of the table.
abbrev pub InstructionsFitRows : Type 0
InstructionsFitRows = (word : ℕ) → OnSome (decode_of word) ((place : ℕ) × FitsAt rows place word)

-- No two words are one instruction.
abbrev pub NoTwoWordsAreOneInstruction : Type 0
NoTwoWordsAreOneInstruction =
    (first second : ℕ) (i : Instr) → first < 2 ^ 32 → second < 2 ^ 32 →
    decode_of first ≡ Some i → decode_of second ≡ Some i → first ≡ second

-- What the lines of a text come to, one after the other: the names and their places, the instructions in order, and
-- the bytes of the data part. A line at fault by its form, its part or a second definition defines its label, has no bytes
-- and chooses no part.
use Rattle.std.specs.Prelude.{ℕ, ◌+◌, Bool, false, nat_le, List, [], ◌∷◌, ◌++◌, length, Option, Some, None, bytes_eq, if◌then◌else◌}
use Rattle.std.specs.List.{list_any}
use Rattle.rv32_asm.specs.declared.statement.Part.{Part}
use Rattle.rv32_asm.specs.declared.statement.Part.TheVariants as part
use Rattle.rv32_asm.specs.Operands.{Code, AddressOf}
use Rattle.rv32_asm.specs.Statement.{Statement, Empty, Choose, Bytes, Instruction}
use Rattle.rv32_asm.specs.Line.{Line, line_of, lines_of}

pub record Label : Type 0 where
  pub name : List ℕ
  pub address : ℕ

-- An instruction with its line and address. There is no code where the line is at fault by itself, by where it
-- stands, or by a second definition.
pub record Entry : Type 0 where
  pub line : ℕ
  pub address : ℕ
  pub code : Option Code

-- The bytes of the data part. No file has them where they pass the limit: from there on they are only counted.
pub record Stored : Type 0 where
  pub len : ℕ
  pub bytes : List ℕ

abbrev pub most_bytes : ℕ
most_bytes = 65536

abbrev pub stored_with : Stored → List ℕ → Stored
stored_with s bytes = record {
  len = s.len + length bytes;
  bytes = if nat_le (s.len + length bytes) most_bytes then s.bytes ++ bytes else s.bytes;
}

pub record Draft : Type 0 where
  pub lines : ℕ
  pub part : Part
  pub labels : List Label
  pub entries : List Entry
  pub text_len : ℕ
  pub stored : Stored

-- the text part is chosen first
abbrev pub start : Draft
start = record { lines = 0; part = part.Text; labels = []; entries = []; text_len = 0; stored = record { len = 0; bytes = [] } }

abbrev pub place_in : Part → Draft → ℕ
place_in part.Text d = 0x10000 + d.text_len
place_in part.Data d = 0x100000 + d.stored.len

-- the address of the next byte of the chosen part
abbrev pub place_of : Draft → ℕ
place_of d = place_in d.part d

abbrev pub is_defined : List Label → List ℕ → Bool
is_defined labels name = list_any (λ l. bytes_eq l.name name) labels

abbrev pub is_second : List Label → Option (List ℕ) → Bool
is_second labels None = false
is_second labels (Some name) = is_defined labels name

-- instructions stand in the text part, bytes in the data part
abbrev pub in_part : Part → Option Statement → Option Statement
in_part part.Text (Some (Bytes bytes)) = None
in_part part.Data (Some (Instruction code)) = None
in_part p statement = statement

-- the statement of a line that isn't at fault where it stands
abbrev pub settled : Draft → Line → Option Statement
settled d line = if is_second d.labels line.label then None else in_part d.part line.statement

abbrev pub labels_with : Draft → Option (List ℕ) → List Label
labels_with d None = d.labels
labels_with d (Some name) = if is_defined d.labels name then d.labels else d.labels ++ record { name = name; address = place_of d } ∷ []

-- `la` is two instructions
abbrev pub size_of : Code → ℕ
size_of (AddressOf rd name) = 8
size_of code = 4

abbrev pub with_entry : Draft → Option Code → Draft
with_entry d code = record d { entries = d.entries ++ record { line = d.lines; address = place_of d; code = code } ∷ [] }

abbrev pub with_statement : Draft → Option Statement → Draft
with_statement d None = with_entry d None
with_statement d (Some Empty) = d
with_statement d (Some (Choose p)) = record d { part = p }
with_statement d (Some (Bytes bytes)) = record d { stored = stored_with d.stored bytes }
with_statement d (Some (Instruction code)) = record (with_entry d (Some code)) { text_len = d.text_len + size_of code }

unfoldable pub after_line : Draft → Line → Draft
after_line d line = with_statement (record d { lines = d.lines + 1; labels = labels_with d line.label }) (settled d line)

unfoldable pub after_lines : Draft → List (List ℕ) → Draft
after_lines d [] = d
after_lines d (line ∷ lines) = after_lines (after_line d (line_of line)) lines

unfoldable pub draft_of : List ℕ → Draft
draft_of text = after_lines start (lines_of text)

-- Lines: a label, a statement, both or neither, and a comment.
use Rattle.std.specs.Prelude.{ℕ, Bool, not, ◌==◌, nat_lt, List, [], ◌∷◌, take_while, Option, Some, None, if◌then◌else◌}
use Rattle.std.specs.List.{list_all}
use Rattle.rv32_asm.specs.Reading.{◌>>=◌, name_at, mark_at}
use Rattle.rv32_asm.specs.Statement.{Statement, statement_of}

-- no statement where the line is no line of the grammar
pub record Line : Type 0 where
  pub label : Option (List ℕ)
  pub statement : Option Statement

-- a name and a colon
unfoldable pub label_at : List ℕ → Option (List ℕ × List ℕ)
label_at bytes = do
  name ← name_at bytes
  rest ← mark_at 58 name.1
  Some (name.0, rest)

abbrev pub labelled : Option (List ℕ × List ℕ) → List ℕ → Line
labelled None bytes = record { label = None; statement = statement_of bytes }
labelled (Some label) bytes = record { label = Some label.0; statement = statement_of label.1 }

abbrev pub only_if : Bool → Line → Line
only_if sound line = record line { statement = if sound then line.statement else None }

abbrev pub is_ascii : List ℕ → Bool
is_ascii bytes = list_all (λ b. nat_lt b 128) bytes

-- what stands before the comment
abbrev pub before_comment : List ℕ → List ℕ
before_comment bytes = take_while (λ b. not (b == 35)) bytes

unfoldable pub line_of : List ℕ → Line
line_of bytes = only_if (is_ascii bytes) (labelled (label_at (before_comment bytes)) (before_comment bytes))

abbrev pub before_first_line : ℕ → List (List ℕ) → List (List ℕ)
before_first_line b [] = (b ∷ []) ∷ []
before_first_line b (line ∷ lines) = (b ∷ line) ∷ lines

-- the lines of a text, which line feeds end; the last may lack its own
abbrev pub lines_of : List ℕ → List (List ℕ)
lines_of [] = []
lines_of (b ∷ bytes) = if b == 10 then [] ∷ lines_of bytes else before_first_line b (lines_of bytes)

-- Statements: what a line says beside its label.
use Rattle.std.specs.Prelude.{ℕ, ◌^◌, ℤ, pos, negsuc, ◌+ℤ◌, int_lt, nat_abs, Bool, false, not, List, [], ◌∷◌, ◌++◌, replicate, Option, Some, None, bytes_eq, codes, if◌then◌else◌}
use Rattle.std.specs.Int.{w32, to_le_bytes}
use Rattle.rv32_asm.specs.declared.statement.Part.{Part}
use Rattle.rv32_asm.specs.declared.statement.Part.TheVariants as part
use Rattle.rv32_asm.specs.declared.stored.NumberSize.{NumberSize}
use Rattle.rv32_asm.specs.declared.stored.NumberSize.TheVariants as size
use Rattle.rv32_asm.specs.Numbers.{number_of, in_range}
use Rattle.rv32_asm.specs.Reading.{◌>>=◌, is_blank, is_over, word_at, number_at}
use Rattle.rv32_asm.specs.Operands.{Code, instruction_at}

pub data Statement : Type 0 where
  Empty : Statement
  Choose : Part → Statement
  Bytes : List ℕ → Statement
  Instruction : Code → Statement

-- ---- words that only blanks separate

abbrev pub begins_word : List ℕ → Bool
begins_word [] = false
begins_word (b ∷ bytes) = not (is_blank b)

abbrev pub onto_first : ℕ → List (List ℕ) → List (List ℕ)
onto_first b [] = (b ∷ []) ∷ []
onto_first b (word ∷ words) = (b ∷ word) ∷ words

abbrev pub words_of : List ℕ → List (List ℕ)
words_of [] = []
words_of (b ∷ bytes) =
    if is_blank b then words_of bytes else
    if begins_word bytes then onto_first b (words_of bytes) else
    (b ∷ []) ∷ words_of bytes

-- ---- numbers as data

abbrev pub lowest_of : NumberSize → ℤ
lowest_of size.Byte = negsuc 127
lowest_of size.Word = negsuc 2147483647

abbrev pub highest_of : NumberSize → ℤ
highest_of size.Byte = pos 255
highest_of size.Word = pos 4294967295

-- the number whose two's complement of this many bits is z
abbrev pub unsigned_of : ℕ → ℤ → ℕ
unsigned_of bits z = nat_abs (if int_lt z (pos 0) then z +ℤ pos (2 ^ bits) else z)

abbrev pub number_bytes : NumberSize → ℤ → List ℕ
number_bytes size.Byte z = unsigned_of 8 z ∷ []
number_bytes size.Word z = to_le_bytes w32 (unsigned_of 32 z)

-- a number that has so many bytes
unfoldable pub sized_number_of : NumberSize → List ℕ → Option ℤ
sized_number_of size word = do
  number ← number_of word
  if in_range (lowest_of size) (highest_of size) number then Some number else None

abbrev pub numbers_bytes : NumberSize → List (List ℕ) → Option (List ℕ)
numbers_bytes size [] = Some []
numbers_bytes size (word ∷ words) = do
  number ← sized_number_of size word
  others ← numbers_bytes size words
  Some (number_bytes size number ++ others)

-- one number or more
unfoldable pub numbers_of : NumberSize → List ℕ → Option Statement
numbers_of size bytes =
    if is_over bytes then None else (numbers_bytes size (words_of bytes) >>= λ stored. Some (Bytes stored))

unfoldable pub zeros_of : List ℕ → Option Statement
zeros_of bytes = do
  count ← number_at (pos 0) (pos 65536) bytes
  if is_over count.1 then Some (Bytes (replicate (nat_abs count.0) 0)) else None

-- ---- statements

abbrev pub choice_of : Part → List ℕ → Option Statement
choice_of part bytes = if is_over bytes then Some (Choose part) else None

unfoldable pub instruction_of : List ℕ → List ℕ → Option Statement
instruction_of word bytes = do
  code ← instruction_at word bytes
  if is_over code.1 then Some (Instruction code.0) else None

unfoldable pub statement_by : List ℕ → List ℕ → Option Statement
statement_by word bytes =
    if bytes_eq word (codes ".text") then choice_of part.Text bytes else
    if bytes_eq word (codes ".data") then choice_of part.Data bytes else
    if bytes_eq word (codes ".byte") then numbers_of size.Byte bytes else
    if bytes_eq word (codes ".word") then numbers_of size.Word bytes else
    if bytes_eq word (codes ".zero") then zeros_of bytes else
    instruction_of word bytes

-- the statement that bytes are, none where they are no statement
unfoldable pub statement_of : List ℕ → Option Statement
statement_of bytes = if is_over bytes then Some Empty else (word_at bytes >>= λ word. statement_by word.0 word.1)

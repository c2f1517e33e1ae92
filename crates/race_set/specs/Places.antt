-- Where read bytes come from, of accesses by their numbers: the recorded order as a test whether one number's access
-- stands before another's.
use Rattle.std.specs.Prelude.{◌≡◌, ℕ, ◌<◌, ◌+◌, ◌*◌, Bool, true, false, ◌&&◌, ◌||◌, nat_eq, nat_lt, List, length, get_or, Option, Some, None, if◌then◌else◌}
use Rattle.race_set.specs.declared.matrix.Matrix.{Matrix}
use Rattle.race_set.specs.declared.shape.AccessShape.{AccessShape}
use Rattle.race_set.specs.declared.source.Source.{Source}
use Rattle.race_set.specs.declared.source.Source.TheVariants as source
use Rattle.race_set.specs.Bytes.{may_write, surely_writes}
use Rattle.race_set.specs.Accesses.{shape_at}

abbrev pub cell : Matrix → ℕ → ℕ → Bool
cell m i j = get_or m.cells (i * m.count + j) false

-- one number's access stands before another's, both among the accesses
abbrev pub recorded_in : Matrix → ℕ → ℕ → Bool
recorded_in m i j = nat_lt i m.count && (nat_lt j m.count && cell m i j)

abbrev pub IsSquare : Matrix → Type 0
IsSquare m = length m.cells ≡ m.count * m.count

-- a matrix has a row and a column for each access
pub record IsMatrixOf (m : Matrix) (shapes : List AccessShape) : Type 0 where
  pub square : IsSquare m
  pub count : m.count ≡ length shapes

-- another access is the reader or stands after it
abbrev pub is_after : (ℕ → ℕ → Bool) → ℕ → ℕ → Bool
is_after recorded reader other = nat_eq other reader || recorded reader other

-- another access is the writer or stands before it, or is the reader or stands after it
abbrev pub is_passed : (ℕ → ℕ → Bool) → ℕ → ℕ → ℕ → Bool
is_passed recorded reader writer other = is_after recorded other writer || is_after recorded reader other

-- another access stands before the reader, and after the writer if there is one
abbrev pub is_later : (ℕ → ℕ → Bool) → ℕ → Option ℕ → ℕ → Bool
is_later recorded reader None other = recorded other reader
is_later recorded reader (Some writer) other = recorded other reader && recorded writer other

-- another access, where it may write the byte and is later; else the writer
abbrev pub later : List AccessShape → (ℕ → ℕ → Bool) → ℕ → ℕ → Option ℕ → ℕ → Option ℕ
later shapes recorded byte reader writer other =
    if may_write byte (shape_at shapes other) && is_later recorded reader writer other then Some other else writer

-- each access that may write the byte is the reader or stands after it
abbrev pub IsInitial : List AccessShape → (ℕ → ℕ → Bool) → ℕ → ℕ → Type 0
IsInitial shapes recorded byte reader =
    (other : ℕ) → other < length shapes → may_write byte (shape_at shapes other) ≡ true → is_after recorded reader other ≡ true

-- each access that may write the byte is the writer or stands before it, or is the reader or stands after it
abbrev pub ArePassed : List AccessShape → (ℕ → ℕ → Bool) → ℕ → ℕ → ℕ → Type 0
ArePassed shapes recorded byte reader writer =
    (other : ℕ) → other < length shapes → may_write byte (shape_at shapes other) ≡ true → is_passed recorded reader writer other ≡ true

-- an access may write the byte and stands before the reader
pub record IsCandidate (shapes : List AccessShape) (recorded : ℕ → ℕ → Bool) (byte reader writer : ℕ) : Type 0 where
  pub within : writer < length shapes
  pub writes : may_write byte (shape_at shapes writer) ≡ true
  pub older : recorded writer reader ≡ true

-- An access surely writes the byte and stands before the reader, and each that may write it is one of the two, or stands
-- before the writer or after the reader.
pub record IsWrite (shapes : List AccessShape) (recorded : ℕ → ℕ → Bool) (byte reader writer : ℕ) : Type 0 where
  pub within : writer < length shapes
  pub writes : surely_writes byte (shape_at shapes writer) ≡ true
  pub older : recorded writer reader ≡ true
  pub passed : ArePassed shapes recorded byte reader writer

-- where the byte comes from, as far as the recorded order decides it
abbrev pub IsSource : List AccessShape → (ℕ → ℕ → Bool) → ℕ → ℕ → Source → Type 0
IsSource shapes recorded byte reader source.Initial = IsInitial shapes recorded byte reader
IsSource shapes recorded byte reader (source.Write writer) = IsWrite shapes recorded byte reader writer
IsSource shapes recorded byte reader source.Open =
    (IsInitial shapes recorded byte reader → ⊥) × ((writer : ℕ) → IsWrite shapes recorded byte reader writer → ⊥)

-- a write is that of one of so many accesses
abbrev pub IsWithin : ℕ → Source → Type 0
IsWithin count source.Initial = Unit {0}
IsWithin count (source.Write writer) = writer < count
IsWithin count source.Open = Unit {0}

-- The bytes that accesses read, with their sources.
use Rattle.std.specs.Prelude.{◌≡◌, ◌≢◌, ◌⊎◌, ℕ, ◌<◌, Bool, true, ◌&&◌, ◌||◌, nat_eq, List, length, Option, Some, None, is_none, All, AllPairs, Contains}
use Rattle.order_clauses.specs.Orders.{IsStrict}
use Rattle.race_set.specs.declared.reading.Reading.{Reading}
use Rattle.race_set.specs.declared.reading.Seen.{Seen}
use Rattle.race_set.specs.declared.shape.AccessShape.{AccessShape}
use Rattle.race_set.specs.declared.source.Source.{Source}
use Rattle.race_set.specs.declared.source.Source.TheVariants as source
use Rattle.race_set.specs.declared.shape.Span.{Span}
use Rattle.race_set.specs.Bytes.{byte_of, may_write, reads_byte}
use Rattle.race_set.specs.Accesses.{shape_at}
use Rattle.race_set.specs.Places.{IsSource}

-- what is seen from a source, by positions
abbrev pub seen_from : List AccessShape → ℕ → ℕ → Source → Option Seen
seen_from shapes reader byte source.Initial =
    Some (record { reader = (shape_at shapes reader).pos; byte = byte; from = None })
seen_from shapes reader byte (source.Write writer) =
    Some (record { reader = (shape_at shapes reader).pos; byte = byte; from = Some (shape_at shapes writer).pos })
seen_from shapes reader byte source.Open = None

-- the source isn't told, and an access is the reader or may write the byte
abbrev pub is_raced_by : Reading → ℕ → AccessShape → Bool
is_raced_by r number access = is_none r.seen && (nat_eq r.reader number || may_write r.byte access)

-- a byte that an access reads, with its source
pub record IsReading (shapes : List AccessShape) (recorded : ℕ → ℕ → Bool) (r : Reading) : Type 0 where
  pub within : r.reader < length shapes
  pub reads : reads_byte r.byte (shape_at shapes r.reader) ≡ true
  pub source : Source
  pub seen : r.seen ≡ seen_from shapes r.reader r.byte source
  pub decided : IsStrict recorded → IsSource shapes recorded r.byte r.reader source

-- a reading of the byte is in a list
abbrev pub IsListed : List Reading → ℕ → ℕ → Type 0
IsListed readings reader byte = (r : Reading) × Contains readings r × (r.reader ≡ reader) × (r.byte ≡ byte)

-- the due bytes were added to readings, and nothing but readings was
pub record AddsReadings (shapes : List AccessShape) (recorded : ℕ → ℕ → Bool) (Due : ℕ → ℕ → Type 0) (old new : List Reading) : Type 0 where
  pub keeps : (r : Reading) → Contains old r → Contains new r
  pub only : (r : Reading) → Contains new r → Contains old r ⊎ IsReading shapes recorded r
  pub each : (reader byte : ℕ) → Due reader byte → IsListed new reader byte

-- the bytes that one access reads
abbrev pub IsReadBy : List AccessShape → ℕ → ℕ → ℕ → Type 0
IsReadBy shapes one reader byte = (reader ≡ one) × (reads_byte byte (shape_at shapes reader) ≡ true)

-- all bytes that accesses with a known place read, and nothing else
pub record AreReadings (shapes : List AccessShape) (recorded : ℕ → ℕ → Bool) (readings : List Reading) : Type 0 where
  pub only : (r : Reading) → Contains readings r → IsReading shapes recorded r
  pub each : (reader byte : ℕ) → reader < length shapes → reads_byte byte (shape_at shapes reader) ≡ true → IsListed readings reader byte

-- a byte is the one with a number in the place of an access with a number
pub record IsByteAt (shapes : List AccessShape) (reader byte number : ℕ) : Type 0 where
  pub span : Span
  pub place : (shape_at shapes reader).place ≡ Some span
  pub within : number < span.len
  pub is : byte_of span number ≡ byte

-- one access and number stand before another: the access is earlier, or it is the same and the number is smaller
abbrev pub Precedes : ℕ → ℕ → ℕ → ℕ → Type 0
Precedes reader number other next = (reader < other) ⊎ ((reader ≡ other) × (number < next))

-- one reading is of a byte before that of another, and one access reads different bytes
pub record IsReadBefore (shapes : List AccessShape) (r s : Reading) : Type 0 where
  pub number : ℕ
  pub next : ℕ
  pub first : IsByteAt shapes r.reader r.byte number
  pub second : IsByteAt shapes s.reader s.byte next
  pub before : Precedes r.reader number s.reader next
  pub differ : r.reader ≡ s.reader → r.byte ≢ s.byte

-- a reading is of a byte before that with a number in the place of an access
pub record IsBefore (shapes : List AccessShape) (reader next : ℕ) (r : Reading) : Type 0 where
  pub number : ℕ
  pub at : IsByteAt shapes r.reader r.byte number
  pub before : Precedes r.reader number reader next

-- readings stand in their order, all of bytes before that with a number in the place of an access
pub record AreBefore (shapes : List AccessShape) (reader next : ℕ) (readings : List Reading) : Type 0 where
  pub order : AllPairs (IsReadBefore shapes) readings
  pub below : All (IsBefore shapes reader next) readings

-- one seen byte is read before another: by an earlier access, or by the same one at a smaller number of its place
pub record IsSeenBefore (shapes : List AccessShape) (s t : Seen) : Type 0 where
  pub reader : ℕ
  pub other : ℕ
  pub reader_in : reader < length shapes
  pub other_in : other < length shapes
  pub reader_is : (shape_at shapes reader).pos ≡ s.reader
  pub other_is : (shape_at shapes other).pos ≡ t.reader
  pub number : ℕ
  pub next : ℕ
  pub first : IsByteAt shapes reader s.byte number
  pub second : IsByteAt shapes other t.byte next
  pub before : Precedes reader number other next

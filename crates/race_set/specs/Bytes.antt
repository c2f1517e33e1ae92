-- Which bytes of memory accesses read and may write.
use Rattle.std.specs.Prelude.{◌≡◌, ℕ, ◌<◌, ◌+◌, ◌-◌, ◌*◌, ◌/◌, ◌%◌, ◌^◌, Bool, true, false, ◌&&◌, ◌||◌, nat_lt, Option, Some, None, is_none}
use Rattle.race_set.specs.declared.shape.Span.{Span}
use Rattle.race_set.specs.declared.shape.AccessShape.{AccessShape}

-- the byte with a number in a span, modulo 2^32
abbrev pub byte_of : Span → ℕ → ℕ
byte_of span i = (span.first + i) % 2 ^ 32

-- how far a byte stands after the first one of a span, modulo 2^32
abbrev pub number_in : Span → ℕ → ℕ
number_in span byte = (byte + (2 ^ 32 - span.first)) % 2 ^ 32

-- a span has a byte
abbrev pub covers : ℕ → Span → Bool
covers byte span = nat_lt byte (2 ^ 32) && nat_lt (number_in span byte) span.len

-- a byte is one of those with a number in a span
abbrev pub HasByte : Span → ℕ → Type 0
HasByte span byte = (i : ℕ) × (i < span.len) × (byte_of span i ≡ byte)

-- a byte is at a place, where that is known
abbrev pub surely_at : ℕ → Option Span → Bool
surely_at byte None = false
surely_at byte (Some span) = covers byte span

-- a byte can be at a place
abbrev pub may_be_at : ℕ → Option Span → Bool
may_be_at byte None = true
may_be_at byte (Some span) = covers byte span

-- an access with a known place reads a byte
abbrev pub reads_byte : ℕ → AccessShape → Bool
reads_byte byte access = access.reads && surely_at byte access.place

-- an access reads at an address that isn't known
abbrev pub is_unplaced_reader : AccessShape → Bool
is_unplaced_reader access = access.reads && is_none access.place

-- an access may write a byte
abbrev pub may_write : ℕ → AccessShape → Bool
may_write byte access = access.writes && may_be_at byte access.place

-- an access writes a byte in every run: its place is known, and it has no link
abbrev pub surely_writes : ℕ → AccessShape → Bool
surely_writes byte access = access.writes && (is_none access.link && surely_at byte access.place)

-- an access may write one of four bytes
abbrev pub may_write_at : ℕ → AccessShape → Bool
may_write_at word access = may_write word access || (may_write (word + 1) access || (may_write (word + 2) access || may_write (word + 3) access))

-- an access may write a byte of the word at a place, of any word where that isn't known
abbrev pub may_write_word : Option Span → AccessShape → Bool
may_write_word None access = access.writes
may_write_word (Some span) access = may_write_at (span.first / 4 * 4) access

-- With which registers, and with which rights and bytes of its buffer, a call has a record.
use Rattle.std.specs.Prelude.{◌≡◌, ℕ, Bool, true, false, ◌&&◌, List, [], length, map, Option, Some, None, IfSome}
use Rattle.std.specs.List.{range_with_len}
use Rattle.elf_image.specs.Layout.{Layout}
use Rattle.elf_image.specs.Memory.{all_readable, all_writable, opening_cells}
use Rattle.odr_log.specs.declared.log.Call.{Call}
use Rattle.odr_log.specs.declared.log.Call.TheVariants as call
use Rattle.rv_model.specs.declared.state.Local.{Local}
use Rattle.rv_model.specs.Calls.{first_argument, fits_buffer, number_of_call, second_argument}

-- the number of the call, which stands in a7
abbrev pub number_in : Call → ℕ
number_in (call.Exit code) = 1
number_in call.EndThread = 2
number_in (call.Spawn entry child) = 3
number_in (call.Join target ok) = 4
number_in (call.Lock mutex ok) = 5
number_in (call.Unlock mutex ok) = 6
number_in (call.TryLock mutex got) = 7
number_in (call.Write bytes) = 8
number_in call.WriteBad = 8
number_in (call.Read want bytes) = 9
number_in call.ReadBad = 9
number_in call.SelfId = 10
number_in call.Yield = 11
number_in (call.Unknown number) = number

-- what stands in a0, where the record tells it
abbrev pub first_in : Call → Option ℕ
first_in (call.Exit code) = Some code
first_in (call.Spawn entry child) = Some entry
first_in (call.Join target ok) = Some target
first_in (call.Lock mutex ok) = Some mutex
first_in (call.Unlock mutex ok) = Some mutex
first_in (call.TryLock mutex got) = Some mutex
first_in call.EndThread = None
first_in (call.Write bytes) = None
first_in call.WriteBad = None
first_in (call.Read want bytes) = None
first_in call.ReadBad = None
first_in call.SelfId = None
first_in call.Yield = None
first_in (call.Unknown number) = None

-- what stands in a1, where the record tells it
abbrev pub second_in : Call → Option ℕ
second_in (call.Write bytes) = Some (length bytes)
second_in (call.Read want bytes) = Some want
second_in (call.Exit code) = None
second_in call.EndThread = None
second_in (call.Spawn entry child) = None
second_in (call.Join target ok) = None
second_in (call.Lock mutex ok) = None
second_in (call.Unlock mutex ok) = None
second_in (call.TryLock mutex got) = None
second_in call.WriteBad = None
second_in call.ReadBad = None
second_in call.SelfId = None
second_in call.Yield = None
second_in (call.Unknown number) = None

-- the registers ask for the call as it is recorded
pub record Asks (local : Local) (made : Call) : Type 0 where
  pub number : number_of_call local ≡ number_in made
  pub first : IfSome (first_in made) (λ value. first_argument local ≡ value)
  pub second : IfSome (second_in made) (λ value. second_argument local ≡ value)

-- a buffer of so many bytes may be read, or written
abbrev pub may_read : Layout → ℕ → ℕ → Bool
may_read image address count = all_readable (opening_cells image) address count

abbrev pub may_write : Layout → ℕ → ℕ → Bool
may_write image address count = all_writable (opening_cells image) address count

-- a write call was handed these bytes
pub record IsHanded (image : Layout) (bytes : ℕ → ℕ) (address : ℕ) (written : List ℕ) : Type 0 where
  pub readable : may_read image address (length written) ≡ true
  pub same : map bytes (range_with_len 0 (length written)) ≡ written

-- The buffer has the rights and bytes that the record tells: a write call was handed these bytes, a read call could hand on
-- its own, and a buffer that the record calls bad is too long or has not all rights.
abbrev pub BufferMeets : Layout → (ℕ → ℕ) → ℕ → ℕ → Call → Type 0
BufferMeets image bytes address count (call.Write written) = IsHanded image bytes address written
BufferMeets image bytes address count call.WriteBad = (fits_buffer count && may_read image address count) ≡ false
BufferMeets image bytes address count (call.Read want got) = may_write image address want ≡ true
BufferMeets image bytes address count call.ReadBad = (fits_buffer count && may_write image address count) ≡ false
BufferMeets image bytes address count other = Unit {0}

-- the bytes that a call reads from its buffer, and those that it writes there
abbrev pub read_in : Call → List ℕ
read_in (call.Write bytes) = bytes
read_in other = []

abbrev pub written_in : Call → List ℕ
written_in (call.Read want bytes) = bytes
written_in other = []

-- The read bytes with one source in every run, and the accesses that need an order.
use Rattle.std.specs.Prelude.{◌≡◌, ◌⊎◌, ℕ, true, List, Option, Some, Contains}
use Rattle.odr_log.specs.declared.log.Log.{Log}
use Rattle.odr_log.specs.declared.log.Pos.{Pos}
use Rattle.rv_model.specs.RecordedOrder.{IsOpen}
use Rattle.race_set.specs.declared.reading.Seen.{Seen}
use Rattle.race_set.specs.declared.shape.AccessShape.{AccessShape}
use Rattle.race_set.specs.Bytes.{reads_byte, is_unplaced_reader, may_write, may_write_word}
use Rattle.race_set.specs.Runs.{IsFixed}

-- a byte that an access with a known place reads, with its source in every run
pub record IsFixedReading (log : Log) (shapes : List AccessShape) (s : Seen) : Type 0 where
  pub reader : AccessShape
  pub listed : Contains shapes reader
  pub is : reader.pos ≡ s.reader
  pub reads : reads_byte s.byte reader ≡ true
  pub fixed : IsFixed log shapes s.byte s.reader s.from

-- a reader doesn't see a byte from one source in every run, and this access is the reader or may write the byte
pub record IsRaced (log : Log) (shapes : List AccessShape) (access : AccessShape) : Type 0 where
  pub byte : ℕ
  pub reader : AccessShape
  pub listed : Contains shapes reader
  pub reads : reads_byte byte reader ≡ true
  pub unfixed : (writer : Option Pos) → IsFixed log shapes byte reader.pos writer → ⊥
  pub part : (access ≡ reader) ⊎ (may_write byte access ≡ true)

-- some access reads at an unknown address, and this one is that access, or writes
pub record IsSearched (shapes : List AccessShape) (access : AccessShape) : Type 0 where
  pub reader : AccessShape
  pub listed : Contains shapes reader
  pub unplaced : is_unplaced_reader reader ≡ true
  pub part : (access ≡ reader) ⊎ (access.writes ≡ true)

-- The outcome of a store-conditional is open: some access that may write a byte of the reserved word is open with it or
-- with the load-reserved that it looks back to.
pub record IsOpenPair (log : Log) (shapes : List AccessShape) (conditional reserved : AccessShape) : Type 0 where
  pub conditional_listed : Contains shapes conditional
  pub reserved_listed : Contains shapes reserved
  pub link : conditional.link ≡ Some reserved.pos
  pub other : AccessShape
  pub other_listed : Contains shapes other
  pub writes : may_write_word reserved.place other ≡ true
  pub unordered : IsOpen log other.pos conditional.pos ⊎ IsOpen log other.pos reserved.pos

-- an access is one of the two, or may write a byte of the reserved word
pub record HasOpenOutcome (log : Log) (shapes : List AccessShape) (access : AccessShape) : Type 0 where
  pub conditional : AccessShape
  pub reserved : AccessShape
  pub pair : IsOpenPair log shapes conditional reserved
  pub part : (access ≡ conditional) ⊎ ((access ≡ reserved) ⊎ (may_write_word reserved.place access ≡ true))

-- the access has part in a byte without one source, in a read at an unknown address, or in an open outcome
abbrev pub NeedsOrder : Log → List AccessShape → AccessShape → Type 0
NeedsOrder log shapes access = IsRaced log shapes access ⊎ (IsSearched shapes access ⊎ HasOpenOutcome log shapes access)

-- the same of the access at a position
pub record NeedsOrderAt (log : Log) (shapes : List AccessShape) (p : Pos) : Type 0 where
  pub access : AccessShape
  pub listed : Contains shapes access
  pub is : access.pos ≡ p
  pub needs : NeedsOrder log shapes access

-- The bytes of an access: where they are, which rights they have, and what is written there.
use Rattle.std.specs.Prelude.{◌≡◌, ◌≢◌, ◌↔◌, ℕ, ◌+◌, ◌/◌, ◌%◌, ◌^◌, ◌<◌, ◌≤◌, true, List, [], length, slice_index, option_map, Some, Contains}
use Rattle.elf_image.specs.declared.write.Write.{Write}
use Rattle.elf_image.specs.Layout.{Layout}
use Rattle.elf_image.specs.declared.cell.Cell.{Cell}
use Rattle.elf_image.specs.Memory.{Cells, cells_after, opening_cells, with_byte, writes_of}
use Rattle.rv_model.specs.Noted.{writes_in}
use Rattle.rv_model.specs.Thread.{touches}
use Rattle.guided_walk.specs.Fits.{byte_address, read_count}
use Rattle.guided_walk.specs.Guided.{Visit, access_in}

-- ---- rights

-- there is a byte of memory at an address that may be read, or written
abbrev pub MayRead : Layout → ℕ → Type 0
MayRead image address = (cell : Cell) × (opening_cells image address ≡ Some cell) × (cell.readable ≡ true)

abbrev pub MayWrite : Layout → ℕ → Type 0
MayWrite image address = (cell : Cell) × (opening_cells image address ≡ Some cell) × (cell.writable ≡ true)

-- the address of a byte of a step's access
abbrev pub address_of : Layout → Visit → ℕ → ℕ
address_of image visit i = byte_address (access_in image visit.seen).address i

-- A step reads at most 256 bytes, which may be read. What it writes are some of the first bytes of its access, which may be
-- written.
pub record HasRights (image : Layout) (visit : Visit) : Type 0 where
  pub few : (access_in image visit.seen).count ≤ 256
  pub reads : (i : ℕ) → i < read_count image visit → MayRead image (address_of image visit i)
  pub written : List ℕ
  pub writes : writes_in visit.outcome ≡ writes_of (access_in image visit.seen).address written []
  pub within : length written ≤ (access_in image visit.seen).count
  pub may_write : (i : ℕ) → i < length written → MayWrite image (address_of image visit i)

-- ---- addresses

-- Bytes from an address on have addresses in a row, modulo 2 ^ 32, and of 2 ^ 32 bytes no two have one.
pub record AreInRow (address : ℕ) : Type 0 where
  pub row : address < 2 ^ 32 → (i : ℕ) → byte_address address i ≡ (address + i) % 2 ^ 32
  pub apart : (i j : ℕ) → i < 2 ^ 32 → j < 2 ^ 32 → byte_address address i ≡ byte_address address j → i ≡ j

abbrev pub AddressLaw : Type 0
AddressLaw = (address : ℕ) → AreInRow address

-- ---- writes

-- a write of one of the bytes that are written from an address on
pub record IsByteAt (address : ℕ) (bytes : List ℕ) (write : Write) : Type 0 where
  pub index : ℕ
  pub within : index < length bytes
  pub address_is : write.address ≡ byte_address address index
  pub byte_is : write.byte ≡ slice_index bytes index

-- What is written from an address on: each of the bytes at its address, and nothing else.
pub record AreWrites (address : ℕ) (bytes : List ℕ) : Type 0 where
  pub each : (write : Write) → Contains (writes_of address bytes []) write ↔ IsByteAt address bytes write
  pub touched : (reserved : ℕ) → (touches (writes_of address bytes []) reserved ≡ true)
      ↔ ((i : ℕ) × (i < length bytes) × (byte_address address i / 4 ≡ reserved / 4))
  pub there : (before : Cells) (older : List Write) (i : ℕ) → i < length bytes
      → cells_after before (writes_of address bytes older) (byte_address address i)
      ≡ option_map (with_byte (slice_index bytes i)) (cells_after before older (byte_address address i))
  pub elsewhere : (before : Cells) (older : List Write) (other : ℕ) → ((i : ℕ) → i < length bytes → byte_address address i ≢ other)
      → cells_after before (writes_of address bytes older) other ≡ cells_after before older other

abbrev pub WritesLaw : Type 0
WritesLaw = (address : ℕ) (bytes : List ℕ) → length bytes ≤ 2 ^ 32 → AreWrites address bytes

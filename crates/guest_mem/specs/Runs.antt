-- Bytes that stand in a row in memory, up to the end of a block.
use Rattle.std.specs.Prelude.{◌≡◌, ℕ, ◌+◌, ◌^◌, ◌<◌, true, false, List, length, slice_index_or, IsTrue}
use Rattle.elf_image.specs.Memory.{Cells, is_readable, is_writable, all_readable, all_writable, bytes_from}
use Rattle.guest_mem.specs.Blocks.{Block, covers}

-- the address is in the block at this place
pub record IsIn (blocks : List Block) (place address : ℕ) : Type 0 where
  pub within : place < length blocks
  pub covered : (default : Block) → IsTrue (covers (slice_index_or blocks place default) address)

-- these bytes may be read from an address on; they are none only where the first may not
pub record AreReadable (cells : Cells) (address : ℕ) (bytes : List ℕ) : Type 0 where
  pub all : all_readable cells address (length bytes) ≡ true
  pub same : bytes_from cells address (length bytes) ≡ bytes
  pub below : address + length bytes < 2 ^ 32
  pub none : length bytes ≡ 0 → is_readable (cells address) ≡ false

-- so many bytes may be written from an address on; they are none only where the first may not
pub record AreWritable (cells : Cells) (address count : ℕ) : Type 0 where
  pub all : all_writable cells address count ≡ true
  pub below : address + count < 2 ^ 32
  pub none : count ≡ 0 → is_writable (cells address) ≡ false

-- fewer bytes than these may be written before the end of the block, none outside all blocks
pub record EndsBefore (cells : Cells) (address count : ℕ) : Type 0 where
  pub run : ℕ
  pub fits : AreWritable cells address run
  pub short : run < count

-- What contracts see of a guest's memory: its blocks, whose bytes change in place.
use Rattle.std.specs.Prelude.{ℕ, ◌+◌, ◌-◌, Bool, ◌&&◌, List, [], ◌∷◌, ◌++◌, length, take, drop, nat_le, nat_lt, slice_index, IsTrue, Some, None, if◌then◌else◌}
use Rattle.elf_image.specs.declared.cell.Cell.{Cell}
use Rattle.elf_image.specs.Memory.{Cells}

-- bytes from an address on, all with the same rights
pub record Block : Type 0 where
  pub start : ℕ
  pub readable : Bool
  pub writable : Bool
  pub bytes : List ℕ

abbrev pub covers : Block → ℕ → Bool
covers block address = nat_le block.start address && nat_lt address (block.start + length block.bytes)

abbrev pub cell_in : Block → ℕ → Cell
cell_in block address = record { byte = slice_index block.bytes (address - block.start); readable = block.readable; writable = block.writable }

-- the memory that blocks hold: at each address the byte of the first block that has it
unfoldable pub cells_of : List Block → Cells
cells_of [] address = None
cells_of (block ∷ blocks) address = if covers block address then Some (cell_in block address) else cells_of blocks address

-- no address is in both blocks
abbrev pub AreApart : Block → Block → Type 0
AreApart a b = (address : ℕ) → IsTrue (covers a address) → IsTrue (covers b address) → ⊥

-- the block with these bytes from an address on
abbrev pub written : Block → ℕ → List ℕ → Block
written block address bytes = record block { bytes = take (address - block.start) block.bytes ++ bytes ++ drop (address - block.start + length bytes) block.bytes }

-- The memory of a guest: the image's regions and eight stacks in the beginning, and after a list of writes the
-- newest write to each byte. This is the sequentially consistent memory: one order of all writes.
use Rattle.std.specs.Prelude.{◌≡◌, ℕ, zero, suc, ◌+◌, ◌-◌, ◌*◌, ◌/◌, ◌%◌, ◌^◌, Bool, true, false, ◌&&◌, List, [], ◌∷◌, nat_eq, nat_le, nat_lt, slice_index, Option, Some, None, option_map, if◌then◌else◌}
use Rattle.elf_image.specs.declared.region.Region.{Region}
use Rattle.elf_image.specs.declared.write.Write.{Write}
pub use Rattle.elf_image.specs.declared.cell.Cell.{Cell}
use Rattle.elf_image.specs.Layout.{Layout, region_at}

-- a memory: at each address a byte with its rights, or none
abbrev pub Cells : Type 0
Cells = ℕ → Option Cell

-- Eight stacks, 0x10000 apart, the first at 0x70000000. Each has 16,384 bytes that may be read and written, and are zero in the beginning.
abbrev pub in_stack : ℕ → Bool
in_stack address = nat_le 0x70000000 address && nat_lt address 0x70080000 && nat_lt ((address - 0x70000000) % 0x10000) 16384

abbrev pub stack_cell : ℕ → Option Cell
stack_cell address = if in_stack address then Some (record { byte = 0; readable = true; writable = true }) else None

abbrev pub cell_in : Option Region → ℕ → Option Cell
cell_in None address = stack_cell address
cell_in (Some region) address = Some (record { byte = slice_index region.bytes (address - region.start); readable = region.perm.r; writable = region.perm.w })

-- the memory before the first step
abbrev pub opening_cells : Layout → Cells
opening_cells image address = cell_in (region_at image.regions address) address

abbrev pub with_byte : ℕ → Cell → Cell
with_byte byte cell = record cell { byte = byte }

-- The memory after a list of writes, the newest first: rights stay, and a byte is the newest one written there.
abbrev pub cells_after : Cells → List Write → Cells
cells_after before [] address = before address
cells_after before (write ∷ older) address = if nat_eq write.address address then option_map (with_byte write.byte) (cells_after before older address) else cells_after before older address

-- now is the memory that these writes left
abbrev pub Stands : Cells → List Write → Cells → Type 0
Stands before writes now = (address : ℕ) → now address ≡ cells_after before writes address

-- bytes of one access have addresses modulo 2 ^ 32
abbrev pub next : ℕ → ℕ
next address = (address + 1) % 2 ^ 32

abbrev pub is_readable : Option Cell → Bool
is_readable None = false
is_readable (Some cell) = cell.readable

abbrev pub is_writable : Option Cell → Bool
is_writable None = false
is_writable (Some cell) = cell.writable

abbrev pub byte_in : Option Cell → ℕ
byte_in None = 0
byte_in (Some cell) = cell.byte

-- all of this many bytes from an address on may be read, or written
abbrev pub all_readable : Cells → ℕ → ℕ → Bool
all_readable cells address zero = true
all_readable cells address (suc count) = is_readable (cells address) && all_readable cells (next address) count

abbrev pub all_writable : Cells → ℕ → ℕ → Bool
all_writable cells address zero = true
all_writable cells address (suc count) = is_writable (cells address) && all_writable cells (next address) count

-- this many bytes from an address on
abbrev pub bytes_from : Cells → ℕ → ℕ → List ℕ
bytes_from cells address zero = []
bytes_from cells address (suc count) = byte_in (cells address) ∷ bytes_from cells (next address) count

-- the bytes of an access, none where one may not be read
abbrev pub load_bytes : Cells → ℕ → ℕ → Option (List ℕ)
load_bytes cells address count = if all_readable cells address count then Some (bytes_from cells address count) else None

-- The writes of an access before older ones: the byte at the lowest address is written first.
abbrev pub writes_of : ℕ → List ℕ → List Write → List Write
writes_of address [] older = older
writes_of address (byte ∷ bytes) older = writes_of (next address) bytes (record { address = address; byte = byte } ∷ older)

-- a number from its bytes, the lowest first
abbrev pub number_of : List ℕ → ℕ
number_of [] = 0
number_of (byte ∷ bytes) = byte + 2 ^ 8 * number_of bytes

-- the low bytes of a number, the lowest first
abbrev pub bytes_of : ℕ → ℕ → List ℕ
bytes_of zero value = []
bytes_of (suc count) value = value % 2 ^ 8 ∷ bytes_of count (value / 2 ^ 8)

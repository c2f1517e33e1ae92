-- What accesses to a memory give.
use Rattle.std.specs.Prelude.{ℕ, ◌%◌, Bool, ◌&&◌, nat_eq, Option, option_map}
use Rattle.elf_image.specs.Memory.{Cells, all_readable, all_writable, load_bytes, number_of}

-- the byte at an address, none outside all regions and stacks
abbrev pub byte_of : Cells → ℕ → Option ℕ
byte_of cells address = option_map (λ cell. cell.byte) (cells address)

-- the number that so many bytes spell, the lowest first; none where one of them may not be read
abbrev pub number_at : Cells → ℕ → ℕ → Option ℕ
number_at cells address count = option_map number_of (load_bytes cells address count)

-- an aligned word that may be read and written
abbrev pub may_amo : Cells → ℕ → Bool
may_amo cells address = nat_eq (address % 4) 0 && (all_readable cells address 4 && all_writable cells address 4)

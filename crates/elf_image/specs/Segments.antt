-- The segments of a file that are loaded, and the image that they make.
use Rattle.std.specs.Prelude.{ℕ, ◌-◌, Bool, ◌&&◌, List, ◌++◌, nat_eq, nat_lt, map, filter, take, drop, replicate}
use Rattle.std.specs.Int.{bit_at}
use Rattle.elf_image.specs.declared.header.ProgramHeader.{ProgramHeader}
use Rattle.elf_image.specs.declared.region.Region.{Region}
use Rattle.elf_image.specs.declared.region.Perm.{Perm}
use Rattle.elf_image.specs.Fields.{headers_of, e_entry}
use Rattle.elf_image.specs.Layout.{Layout}

-- a segment of type 1, which is to be loaded, with bytes in memory
abbrev pub is_load : ProgramHeader → Bool
is_load header = nat_eq header.p_type 1 && nat_lt 0 header.p_memsz

-- the segments that are loaded, in the order of their headers
abbrev pub loads_of : List ℕ → List ProgramHeader
loads_of file = filter is_load (headers_of file)

-- the flags X, W and R are the bits 0, 1 and 2
abbrev pub rights_of : ℕ → Perm
rights_of flags = record { r = nat_eq (bit_at flags 2) 1; w = nat_eq (bit_at flags 1) 1; x = nat_eq (bit_at flags 0) 1 }

-- the bytes of a segment: those of the file, then zeros
abbrev pub segment_bytes : List ℕ → ProgramHeader → List ℕ
segment_bytes file header = take header.p_filesz (drop header.p_offset file) ++ replicate (header.p_memsz - header.p_filesz) 0

abbrev pub region_of : List ℕ → ProgramHeader → Region
region_of file header = record { start = header.p_vaddr; perm = rights_of header.p_flags; bytes = segment_bytes file header }

-- the image that a file gives
abbrev pub image_of : List ℕ → Layout
image_of file = record { regions = map (region_of file) (loads_of file); entry = e_entry file }

-- The fields of an ELF32 file that are read, as functions of its bytes. Numbers have their low byte first.
use Rattle.std.specs.Prelude.{ℕ, zero, suc, ◌+◌, ◌*◌, ◌^◌, List, [], ◌∷◌, slice_index}
use Rattle.elf_image.specs.declared.header.ProgramHeader.{ProgramHeader}

unfoldable pub u16_at : List ℕ → ℕ → ℕ
u16_at file at = slice_index file at + 2 ^ 8 * slice_index file (at + 1)

unfoldable pub u32_at : List ℕ → ℕ → ℕ
u32_at file at = slice_index file at + 2 ^ 8 * slice_index file (at + 1) + 2 ^ 16 * slice_index file (at + 2) + 2 ^ 24 * slice_index file (at + 3)

-- the file header (ELF32, "ELF Header")
abbrev pub ei_class : List ℕ → ℕ
ei_class file = slice_index file 4

abbrev pub ei_data : List ℕ → ℕ
ei_data file = slice_index file 5

abbrev pub ei_version : List ℕ → ℕ
ei_version file = slice_index file 6

abbrev pub e_type : List ℕ → ℕ
e_type file = u16_at file 16

abbrev pub e_machine : List ℕ → ℕ
e_machine file = u16_at file 18

abbrev pub e_version : List ℕ → ℕ
e_version file = u32_at file 20

abbrev pub e_entry : List ℕ → ℕ
e_entry file = u32_at file 24

abbrev pub e_phoff : List ℕ → ℕ
e_phoff file = u32_at file 28

abbrev pub e_flags : List ℕ → ℕ
e_flags file = u32_at file 36

abbrev pub e_phentsize : List ℕ → ℕ
e_phentsize file = u16_at file 42

abbrev pub e_phnum : List ℕ → ℕ
e_phnum file = u16_at file 44

-- a program header (ELF32, "Program Header")
abbrev pub header_at : List ℕ → ℕ → ProgramHeader
header_at file at = record { p_type = u32_at file at; p_offset = u32_at file (at + 4); p_vaddr = u32_at file (at + 8); p_filesz = u32_at file (at + 16); p_memsz = u32_at file (at + 20); p_flags = u32_at file (at + 24) }

-- so many program headers of 32 bytes each, from a place on
abbrev pub headers_from : List ℕ → ℕ → ℕ → List ProgramHeader
headers_from file at zero = []
headers_from file at (suc count) = header_at file at ∷ headers_from file (at + 32) count

-- the file's table of program headers
abbrev pub headers_of : List ℕ → List ProgramHeader
headers_of file = headers_from file (e_phoff file) (e_phnum file)

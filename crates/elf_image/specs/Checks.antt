-- The checks on an ELF file, each as a test of its bytes that is true where the check fails. Sums don't wrap.
use Rattle.std.specs.Prelude.{◌≡◌, ℕ, ◌+◌, ◌*◌, Bool, false, not, ◌&&◌, ◌||◌, List, [], ◌∷◌, ◌++◌, length, nat_eq, nat_lt, find, sum_by, Option, None, is_none}
use Rattle.std.specs.List.{list_any, starts_with}
use Rattle.elf_image.specs.declared.fault.Check.{Check}
use Rattle.elf_image.specs.declared.fault.Check.TheVariants as check
use Rattle.elf_image.specs.declared.header.ProgramHeader.{ProgramHeader}
use Rattle.elf_image.specs.Fields.{ei_class, ei_data, ei_version, e_type, e_machine, e_version, e_entry, e_phoff, e_flags, e_phentsize, e_phnum, headers_of}
use Rattle.elf_image.specs.Layout.{Layout, fetch_of}
use Rattle.elf_image.specs.Segments.{loads_of, rights_of, image_of}
use Rattle.std.specs.Int.{bit_at}

-- the file header has 52 bytes
abbrev pub is_short : List ℕ → Bool
is_short file = nat_lt (length file) 52

-- a file begins with 7f 45 4c 46
abbrev pub has_other_magic : List ℕ → Bool
has_other_magic file = not (starts_with nat_eq file (0x7f ∷ 0x45 ∷ 0x4c ∷ 0x46 ∷ []))

-- 32 bits, little-endian, version 1
abbrev pub has_other_class : List ℕ → Bool
has_other_class file = not (nat_eq (ei_class file) 1 && nat_eq (ei_data file) 1 && nat_eq (ei_version file) 1 && nat_eq (e_version file) 1)

-- type 2 is an executable file
abbrev pub has_other_kind : List ℕ → Bool
has_other_kind file = not (nat_eq (e_type file) 2)

-- machine 243 is RISC-V
abbrev pub has_other_machine : List ℕ → Bool
has_other_machine file = not (nat_eq (e_machine file) 243)

-- bit 0 of the flags says that there are compressed instructions
abbrev pub is_compressed : List ℕ → Bool
is_compressed file = nat_eq (bit_at (e_flags file) 0) 1

-- The number 65,535 says that the true number stands elsewhere. A table that isn't empty has entries of 32 bytes and
-- ends within the file.
abbrev pub has_bad_table : List ℕ → Bool
has_bad_table file = nat_eq (e_phnum file) 65535 || (not (nat_eq (e_phnum file) 0) && (not (nat_eq (e_phentsize file) 32) || nat_lt (length file) (e_phoff file + 32 * e_phnum file)))

-- type 2 has the data of dynamic linking, type 3 the name of an interpreter
abbrev pub is_dynamic : ProgramHeader → Bool
is_dynamic header = nat_eq header.p_type 2 || nat_eq header.p_type 3

-- a segment to be loaded, empty or not, of more bytes in the file than in memory, past the file, or above the memory
-- of segments
abbrev pub is_out_of_range : ℕ → ProgramHeader → Bool
is_out_of_range size header = nat_eq header.p_type 1 && (nat_lt header.p_memsz header.p_filesz || nat_lt size (header.p_offset + header.p_filesz) || nat_lt 0x70000000 (header.p_vaddr + header.p_memsz))

abbrev pub is_writable_code : ProgramHeader → Bool
is_writable_code header = (rights_of header.p_flags).w && (rights_of header.p_flags).x

-- some address is in both segments
abbrev pub shares_address : ProgramHeader → ProgramHeader → Bool
shares_address a b = nat_lt a.p_vaddr (b.p_vaddr + b.p_memsz) && nat_lt b.p_vaddr (a.p_vaddr + a.p_memsz)

-- two of the segments share an address
abbrev pub overlap : List ProgramHeader → Bool
overlap [] = false
overlap (header ∷ headers) = list_any (shares_address header) headers || overlap headers

-- whether a check fails
abbrev pub fails : Check → List ℕ → Bool
fails check.Short file = is_short file
fails check.Magic file = has_other_magic file
fails check.Class file = has_other_class file
fails check.Kind file = has_other_kind file
fails check.Machine file = has_other_machine file
fails check.Compressed file = is_compressed file
fails check.Headers file = has_bad_table file
fails check.Dynamic file = list_any is_dynamic (headers_of file)
fails check.NoLoad file = nat_eq (length (loads_of file)) 0
fails check.TooManyLoads file = nat_lt 16 (length (loads_of file))
fails check.Range file = list_any (is_out_of_range (length file)) (headers_of file)
fails check.WritableCode file = list_any is_writable_code (loads_of file)
fails check.Overlap file = overlap (loads_of file)
fails check.TooLarge file = nat_lt 1048576 (sum_by (λ header. header.p_memsz) (loads_of file))
fails check.EntryOutside file = is_none (fetch_of (image_of file) (e_entry file))

-- the first check of a list that fails
unfoldable pub first_of : List Check → List ℕ → Option Check
first_of checks file = find (λ c. fails c file) checks

-- the checks in their order: of the file header, of the program headers, and of the entry
abbrev pub header_checks : List Check
header_checks = check.Short ∷ check.Magic ∷ check.Class ∷ check.Kind ∷ check.Machine ∷ check.Compressed ∷ check.Headers ∷ []

abbrev pub segment_checks : List Check
segment_checks = check.Dynamic ∷ check.NoLoad ∷ check.TooManyLoads ∷ check.Range ∷ check.WritableCode ∷ check.Overlap ∷ check.TooLarge ∷ []

abbrev pub checks : List Check
checks = header_checks ++ segment_checks ++ check.EntryOutside ∷ []

-- the first check that fails, none where all hold
abbrev pub first_check : List ℕ → Option Check
first_check file = first_of checks file

-- the image is that of a file that fails no check
pub record IsImage (file : List ℕ) (image : Layout) : Type 0 where
  pub passes : first_check file ≡ None
  pub gives : image ≡ image_of file

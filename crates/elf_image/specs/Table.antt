-- What the checks leave of the headers of a file.
use Rattle.std.specs.Prelude.{ℕ, ◌+◌, ◌*◌, ◌≤◌, ◌<◌, List, length}
use Rattle.elf_image.specs.declared.header.ProgramHeader.{ProgramHeader}
use Rattle.elf_image.specs.Fields.{e_phoff, e_phnum}

-- the file has a header, and the whole of its table of program headers
pub record HasTable (file : List ℕ) : Type 0 where
  pub header : 52 ≤ length file
  pub table : 0 < e_phnum file → e_phoff file + 32 * e_phnum file ≤ length file

-- the bytes of a segment lie within a file of this size, and fit into the segment's memory
pub record IsHeld (size : ℕ) (header : ProgramHeader) : Type 0 where
  pub within : header.p_offset + header.p_filesz ≤ size
  pub fits : header.p_filesz ≤ header.p_memsz

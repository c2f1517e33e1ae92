-- The rights of the bytes that an access touches.
use Rattle.std.specs.Prelude.{ℕ, zero, suc, Bool, true, ◌&&◌, List, Option}
use Rattle.elf_image.specs.declared.cell.Cell.{Cell}
use Rattle.elf_image.specs.declared.region.Perm.{Perm}
use Rattle.elf_image.specs.declared.region.Region.{Region}
use Rattle.elf_image.specs.Layout.{Layout, region_at}
use Rattle.elf_image.specs.Memory.{Cells, all_readable, all_writable, cell_in, is_readable, is_writable, next, opening_cells}
use Rattle.rv_model.specs.Instruction.{is_aligned}
use Rattle.access_terms.specs.declared.right.Right.{Right}
use Rattle.access_terms.specs.declared.right.Right.TheVariants.{Read, Write}

-- the bytes of a region have it
abbrev pub grants : Right → Perm → Bool
grants Read perm = perm.r
grants Write perm = perm.w

-- the byte has it
abbrev pub allows : Right → Option Cell → Bool
allows Read cell = is_readable cell
allows Write cell = is_writable cell

-- the byte at an address has it, by these regions and the stacks
abbrev pub allows_in : Right → List Region → ℕ → Bool
allows_in right regions address = allows right (cell_in (region_at regions address) address)

-- this many bytes from an address on have it
abbrev pub all_allow : Right → Cells → ℕ → ℕ → Bool
all_allow right cells address zero = true
all_allow right cells address (suc count) = allows right (cells address) && all_allow right cells (next address) count

-- the word at an address may be used by the atomic instructions
abbrev pub may_use : Layout → ℕ → Bool
may_use image address = is_aligned address && (all_readable (opening_cells image) address 4 && all_writable (opening_cells image) address 4)

-- The blocks of a memory before the first step.
use Rattle.std.specs.Prelude.{ℕ, zero, suc, ◌+◌, ◌*◌, true, List, [], ◌∷◌, replicate}
use Rattle.elf_image.specs.declared.region.Region.{Region}
use Rattle.guest_mem.specs.Blocks.{Block}

-- a region of the image
abbrev pub block_of : Region → Block
block_of region = record { start = region.start; readable = region.perm.r; writable = region.perm.w; bytes = region.bytes }

-- zeros that may be read and written
unfoldable pub zero_block : ℕ → ℕ → Block
zero_block start size = record { start = start; readable = true; writable = true; bytes = replicate size 0 }

-- the stack of a thread
abbrev pub stack_block : ℕ → Block
stack_block thread = zero_block (0x70000000 + thread * 0x10000) 16384

-- the stacks of so many threads, from one on
abbrev pub stacks_from : ℕ → ℕ → List Block
stacks_from thread zero = []
stacks_from thread (suc count) = stack_block thread ∷ stacks_from (thread + 1) count

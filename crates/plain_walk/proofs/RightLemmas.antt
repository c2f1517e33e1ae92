-- The rights of image and stacks are those after no write.
use Rattle.std.specs.Prelude.{◌≡◌, ℕ, []}
use Rattle.elf_image.specs.Layout.{Layout}
use Rattle.elf_image.specs.Memory.{opening_cells, cells_after, all_readable, all_writable}
use Rattle.guided_walk.proofs.Meeting.{all_readable_after, all_writable_after}

pub readable : (image : Layout) (a n : ℕ) → all_readable (cells_after (opening_cells image) []) a n ≡ all_readable (opening_cells image) a n
readable image a n = all_readable_after (opening_cells image) [] a n

pub writable : (image : Layout) (a n : ℕ) → all_writable (cells_after (opening_cells image) []) a n ≡ all_writable (opening_cells image) a n
writable image a n = all_writable_after (opening_cells image) [] a n

pub ruleset rights = (readable, writable)

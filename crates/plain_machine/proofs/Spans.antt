-- Runs of bytes from an address on, one byte at a time.
use Rattle.std.specs.Prelude.{◌≡◌, ℕ, suc, ◌+◌, ◌-◌, ◌<◌, ◌&&◌}
use Rattle.std.proofs.Common.{ap, arith}
use Rattle.elf_image.specs.Memory.{Cells, next, is_readable, all_readable}
use Rattle.guest_mem.specs.Laws.{length-bytes_from}
use Rattle.guest_mem.proofs.Spans.{all_writable-more, bytes_from-more}

pub all_readable-more : (cells : Cells) (a n i : ℕ) → i < n → all_readable cells a (n - i) ≡ (is_readable (cells a) && all_readable cells (next a) (n - (i + 1)))
all_readable-more cells a n i within = let e : n - i ≡ suc (n - (i + 1)) = omega arith in ap (all_readable cells a) e

pub ruleset spans = (all_readable-more, all_writable-more, bytes_from-more)

pub ruleset lengths = (length-bytes_from)

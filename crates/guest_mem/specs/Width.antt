-- The widths of an access.
use Rattle.std.specs.Prelude.{ℕ}
use Rattle.guest_mem.specs.declared.width.Width.{Width}
use Rattle.guest_mem.specs.declared.width.Width.TheVariants as width

-- its number of bytes
abbrev pub size_of : Width → ℕ
size_of width.One = 1
size_of width.Two = 2
size_of width.Four = 4

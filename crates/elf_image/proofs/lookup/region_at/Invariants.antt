use Rattle.std.proofs.Common.{◌≡◌, drop}
use Rattle.elf_image.specs.Layout.{region_at}
use Rattle.elf_image.proofs.lookup.region_at.Given as goal

-- no region so far has the address
abbrev pub invariant-loop-region : goal.invariant-loop-region
invariant-loop-region l = region_at (drop l.region-index l.regions) l.address ≡ region_at l.regions l.address

use Rattle.std.proofs.Common.{◌≡◌, map, take}
use Rattle.guest_mem.specs.Opening.{block_of}
use Rattle.guest_mem.proofs.opening.region_blocks.Given as goal

-- the regions so far
abbrev pub invariant-loop-region : goal.invariant-loop-region
invariant-loop-region l = l.blocks.items ≡ map block_of (take l.region-index l.regions)

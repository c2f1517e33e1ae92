use Rattle.std.proofs.Common.{◌≡◌, drop}
use Rattle.guest_mem.specs.Blocks.{cells_of}
use Rattle.guest_mem.proofs.blocks.first_place.Given as goal

-- no block so far has the address
abbrev pub invariant-loop-place : goal.invariant-loop-place
invariant-loop-place l = cells_of (drop l.place l.blocks) l.address ≡ cells_of l.blocks l.address

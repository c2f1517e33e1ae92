use Rattle.std.proofs.Common.{◌≡◌, map, take}
use Rattle.elf_image.specs.Segments.{region_of}
use Rattle.elf_image.proofs.segments.regions.Given as goal

-- the regions so far
abbrev pub invariant-loop-load : goal.invariant-loop-load
invariant-loop-load l = l.regions.items ≡ map (region_of l.file) (take l.load-index l.loads)

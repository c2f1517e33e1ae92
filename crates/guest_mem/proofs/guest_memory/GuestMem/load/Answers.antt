use Rattle.std.proofs.Common.{List, ◌++◌, map, ap, ◌∙◌}
use Rattle.elf_image.specs.declared.region.Region.{Region}
use Rattle.guest_mem.specs.Opening.{block_of, stacks_from}
use Rattle.guest_mem.proofs.OpeningLemmas.{AllPairs-opening, Stands-opening}
use Rattle.guest_mem.proofs.guest_memory.GuestMem.load.Goals as goal

pub invariant_of-result : goal.invariant_of-result
invariant_of-result c =
    AllPairs-opening c.args.image.now c.in_ok-blocks.blocks.items c.laws.ensures
    (c.in_ok-blocks.ensures ∙ ap (λ (regions : List Region). map block_of regions ++ stacks_from 0 8) c.regions.ensures)

pub returns : goal.returns
returns c =
    Stands-opening c.args.image.now c.in_ok-blocks.blocks.items
    (c.in_ok-blocks.ensures ∙ ap (λ (regions : List Region). map block_of regions ++ stacks_from 0 8) c.regions.ensures)

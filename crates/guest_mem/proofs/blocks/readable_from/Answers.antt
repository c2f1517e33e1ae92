use Rattle.guest_mem.proofs.BlockLemmas.{AreReadable-in}
use Rattle.guest_mem.proofs.blocks.readable_from.Goals as goal

pub returns-in-Some : goal.returns-in-Some
returns-in-Some c =
    AreReadable-in c.args.blocks.now c.in-Some.place c.args.address c.index-blocks-place.result c.readable_from.result.now
    c.requires c.in-Some.ensures.found c.index-blocks-place.is c.readable_from.ensures.below c.readable_from.ensures.bytes

use Rattle.guest_mem.proofs.BlockLemmas.{AreWritable-in}
use Rattle.guest_mem.proofs.blocks.writable_from.Goals as goal

pub returns-in-Some : goal.returns-in-Some
returns-in-Some c =
    AreWritable-in c.args.blocks.now c.in-Some.place c.args.address c.index-blocks-place.result c.writable_from.result
    c.requires c.in-Some.ensures.found c.index-blocks-place.is c.writable_from.ensures.below c.writable_from.ensures.count

use Rattle.std.proofs.Common.{[], ◌∷◌}
use Rattle.guest_mem.proofs.BlockLemmas.{AllPairs-in, Stands-in, one_fits}
use Rattle.guest_mem.proofs.blocks.store_byte.Goals as goal

pub returns-in-Some-clause-apart : goal.returns-in-Some-clause-apart
returns-in-Some-clause-apart c =
    let fits = one_fits c.args.blocks.now c.in-Some.place c.args.address c.index-blocks-place.result c.in-Some.ensures.found in
    AllPairs-in c.args.blocks.now c.in-Some.place c.args.address c.index-blocks-place.result c.write.new.self (c.args.byte ∷ [])
    c.requires.apart c.in-Some.ensures.found fits c.write.ensures.written

pub returns-in-Some-clause-stored : goal.returns-in-Some-clause-stored
returns-in-Some-clause-stored c =
    let fits = one_fits c.args.blocks.now c.in-Some.place c.args.address c.index-blocks-place.result c.in-Some.ensures.found in
    Stands-in c.args.blocks.now c.in-Some.place c.args.address c.index-blocks-place.result c.write.new.self (c.args.byte ∷ [])
    c.requires.apart c.in-Some.ensures.found fits c.write.ensures.below c.write.ensures.written

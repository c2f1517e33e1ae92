use Rattle.std.proofs.Common.{length}
use Rattle.guest_mem.proofs.BlockLemmas.{AllPairs-in, Stands-in, AreWritable-at, fits_in}
use Rattle.guest_mem.proofs.Spans.{all_writable-within}
use Rattle.guest_mem.specs.Blocks.{cells_of}
use Rattle.guest_mem.proofs.blocks.store_in_one.Goals as goal

pub returns-then-writable_from-bytes-clause-short : goal.returns-then-writable_from-bytes-clause-short
returns-then-writable_from-bytes-clause-short c = record {
  run = c.writable_from.result;
  fits = AreWritable-at c.args.blocks.now c.in-Some.place c.args.address c.index-blocks-place.result c.writable_from.result c.requires c.in-Some.ensures.found c.writable_from.ensures.below c.writable_from.ensures.count;
  short = c.if-writable_from-bytes.true;
}

pub returns-clause-apart : goal.returns-clause-apart
returns-clause-apart c =
    let fits = fits_in c.args.blocks.now c.in-Some.place c.args.address c.index-blocks-place.result c.writable_from.result (length c.args.bytes.now) c.in-Some.ensures.found c.writable_from.ensures.count c.if-writable_from-bytes.false in
    AllPairs-in c.args.blocks.now c.in-Some.place c.args.address c.index-blocks-place.result c.write.new.self c.args.bytes.now
    c.requires c.in-Some.ensures.found fits c.write.ensures.written

pub returns-clause-allowed : goal.returns-clause-allowed
returns-clause-allowed c =
    let run = AreWritable-at c.args.blocks.now c.in-Some.place c.args.address c.index-blocks-place.result c.writable_from.result c.requires c.in-Some.ensures.found c.writable_from.ensures.below c.writable_from.ensures.count in
    all_writable-within (cells_of c.args.blocks.now) c.args.address (length c.args.bytes.now) c.writable_from.result run c.if-writable_from-bytes.false

pub returns-clause-stored : goal.returns-clause-stored
returns-clause-stored c =
    let fits = fits_in c.args.blocks.now c.in-Some.place c.args.address c.index-blocks-place.result c.writable_from.result (length c.args.bytes.now) c.in-Some.ensures.found c.writable_from.ensures.count c.if-writable_from-bytes.false in
    Stands-in c.args.blocks.now c.in-Some.place c.args.address c.index-blocks-place.result c.write.new.self c.args.bytes.now
    c.requires c.in-Some.ensures.found fits c.write.ensures.below c.write.ensures.written

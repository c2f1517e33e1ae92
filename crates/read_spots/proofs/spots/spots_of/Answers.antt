use Rattle.std.proofs.Common.{ℕ, ◌≡◌, [], List, sym, ap, subst, arith}
use Rattle.reader_parts.specs.declared.reading.Spot.{Spot}
use Rattle.read_spots.specs.Spots.{AreSpotsBefore, sought}
use Rattle.read_spots.proofs.Listing.{all_done, none_yet}
use Rattle.read_spots.proofs.Covering.{spots_in}
use Rattle.read_spots.proofs.spots.spots_of.Goals as goal

pub loop-writer-init : goal.loop-writer-init
loop-writer-init c =
    λ log order counted.
    let s = sought log c.args.accesses.now c.args.shapes.now c.args.places.now c.args.reader c.args.index in
    subst (λ (list : List Spot). AreSpotsBefore s 0 0 list) (sym c.new-spots.ensures) (none_yet s)

pub returns-clause-exact : goal.returns-clause-exact
returns-clause-exact c =
    λ log order counted.
    all_done (sought log c.args.accesses.now c.args.shapes.now c.args.places.now c.args.reader c.args.index) c.loop-writer.writer c.loop-writer.spots
    (omega (arith, c.loop-writer-test.false)) (c.loop-writer.invariant log order counted)

pub returns-clause-spots : goal.returns-clause-spots
returns-clause-spots c =
    λ setting same is unfixed.
    spots_in setting c.args.order.now c.args.accesses.now c.args.shapes.now c.args.places.now c.args.reader c.args.index c.loop-writer.spots same c.requires.reader (omega arith)
    (λ log order counted. all_done (sought log c.args.accesses.now c.args.shapes.now c.args.places.now c.args.reader c.args.index) c.loop-writer.writer c.loop-writer.spots
    (omega (arith, c.loop-writer-test.false)) (c.loop-writer.invariant log order counted)) is unfixed

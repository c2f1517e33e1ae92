use Rattle.std.proofs.Common.{ℕ, ◌≡◌, subst, arith}
use Rattle.read_spots.specs.Spots.{AreSpotsBefore}
use Rattle.read_spots.proofs.Listing.{one_more}
use Rattle.read_spots.proofs.spots.add_bytes.Goals as goal

pub loop-byte-preserved : goal.loop-byte-preserved
loop-byte-preserved c =
    λ s all are.
    one_more s c.args.access c.loop-byte.byte c.args.at c.loop-byte.spots c.push.new.self c.in_ok-push.ensures
    (all c.loop-byte.byte (omega arith) (omega (arith, c.loop-byte-test.true))) (c.loop-byte.invariant s all are)

pub returns : goal.returns
returns c =
    λ s all are.
    let done : c.loop-byte.byte ≡ c.args.end = omega (arith, c.loop-byte-test.false) in
    subst (λ (n : ℕ). AreSpotsBefore s c.args.access n c.loop-byte.spots) done (c.loop-byte.invariant s all are)

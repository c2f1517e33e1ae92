use Rattle.std.proofs.Common.{ℕ, ◌<◌, ◌≤◌}
use Rattle.read_spots.specs.Spots.{AreSpotsBefore, IsSpotOf, Sought}
use Rattle.read_spots.proofs.spots.add_bytes.Given as goal

abbrev pub invariant-loop-byte : goal.invariant-loop-byte
invariant-loop-byte l =
    (s : Sought) → ((b : ℕ) → l.first ≤ b → b < l.end → IsSpotOf s (record { access = l.access; byte = b; at = l.at }))
    → AreSpotsBefore s l.access l.first l.initial.spots → AreSpotsBefore s l.access l.byte l.spots

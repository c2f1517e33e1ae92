use Rattle.std.proofs.Common.{◌≡◌, map}
use Rattle.std.specs.List.{range_with_len}
use Rattle.plain_walk.specs.Data.{byte_of}
use Rattle.plain_walk.proofs.given.padded.Given as goal

abbrev pub invariant-loop-i : goal.invariant-loop-i
invariant-loop-i l = l.first ≡ map (byte_of l.bytes) (range_with_len 0 l.i)

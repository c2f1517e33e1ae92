use Rattle.std.proofs.Common.{◌≡◌, take}
use Rattle.std.specs.List.{flat_map}
use Rattle.odr_log.specs.Tape.{written_by}
use Rattle.odr_log.proofs.streams.output.Given as goal

abbrev pub invariant-loop-made : goal.invariant-loop-made
invariant-loop-made l = l.joined.items ≡ flat_map (λ r. written_by r.call) (take l.made-index l.made-items)

use Rattle.std.proofs.Common.{◌≡◌, ◌-◌}
use Rattle.odr_log.specs.Reading.{list_at, item_at}
use Rattle.odr_log.proofs.Loop.{with_front}
use Rattle.odr_log.proofs.reading.path_of.Given as goal

abbrev pub invariant-loop : goal.invariant-loop
invariant-loop l = with_front l.path (list_at item_at (l.count - l.counter) l.rest) ≡ list_at item_at l.count l.bytes

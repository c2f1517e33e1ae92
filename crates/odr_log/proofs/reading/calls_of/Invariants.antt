use Rattle.std.proofs.Common.{◌≡◌, ◌-◌}
use Rattle.odr_log.specs.Reading.{list_at, record_at}
use Rattle.odr_log.proofs.Loop.{with_front}
use Rattle.odr_log.proofs.reading.calls_of.Given as goal

abbrev pub invariant-loop : goal.invariant-loop
invariant-loop l = with_front l.calls (list_at (record_at l.threads) (l.count - l.counter) l.rest) ≡ list_at (record_at l.threads) l.count l.bytes

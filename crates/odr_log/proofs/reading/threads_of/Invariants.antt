use Rattle.std.proofs.Common.{◌≡◌, ◌-◌}
use Rattle.odr_log.specs.Reading.{list_at, thread_at}
use Rattle.odr_log.proofs.Loop.{with_front}
use Rattle.odr_log.proofs.reading.threads_of.Given as goal

abbrev pub invariant-loop : goal.invariant-loop
invariant-loop l = with_front l.threads (list_at thread_at (l.count - l.counter) l.rest) ≡ list_at thread_at l.count l.bytes

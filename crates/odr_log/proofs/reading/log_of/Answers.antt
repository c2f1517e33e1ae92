use Rattle.std.proofs.Common.{◌≡◌, ◌≤◌, length, arith}
use Rattle.odr_log.specs.Reading.{thread_at}
use Rattle.odr_log.proofs.Fields.{byte_at-within, length-list_at}
use Rattle.odr_log.proofs.reading.log_of.Goals as goal

pub body_of-requires-clause-some : goal.body_of-requires-clause-some
body_of-requires-clause-some c =
    let within : (1 ≤ c.in_ok-count.count) × (c.in_ok-count.count ≤ 8) = byte_at-within 1 8 c.in_ok-rest.rest.now c.in_ok-count.count c.in_ok-count.rest.now c.in_ok-count.ensures in
    let long : length c.in_ok-threads.threads ≡ c.in_ok-count.count = length-list_at thread_at c.in_ok-count.count c.in_ok-count.rest.now (c.in_ok-threads.threads, c.in_ok-threads.rest.now) c.in_ok-threads.ensures in
    omega arith

pub body_of-requires-clause-few : goal.body_of-requires-clause-few
body_of-requires-clause-few c =
    let within : (1 ≤ c.in_ok-count.count) × (c.in_ok-count.count ≤ 8) = byte_at-within 1 8 c.in_ok-rest.rest.now c.in_ok-count.count c.in_ok-count.rest.now c.in_ok-count.ensures in
    let long : length c.in_ok-threads.threads ≡ c.in_ok-count.count = length-list_at thread_at c.in_ok-count.count c.in_ok-count.rest.now (c.in_ok-threads.threads, c.in_ok-threads.rest.now) c.in_ok-threads.ensures in
    omega arith

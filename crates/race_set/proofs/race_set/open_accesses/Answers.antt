use Rattle.race_set.specs.Places.{recorded_in}
use Rattle.race_set.proofs.SeenOrder.{seen_ordered, seen_apart}
use Rattle.race_set.proofs.RaceSets.{matrix_of, race_seen, race_ordered}
use Rattle.race_set.proofs.race_set.open_accesses.Goals as goal

pub returns-clause-seen : goal.returns-clause-seen
returns-clause-seen c =
    let m = c.in_ok-recorded.recorded in
    let shapes = c.args.shapes.now in
    race_seen c.args.order.now shapes m (matrix_of m shapes c.in_ok-recorded.ensures.count c.in_ok-recorded.ensures.square) c.in_ok-recorded.ensures.recorded
    c.in_ok-readings.readings c.as_slice.result.now c.in_ok-set.set.seen c.in_ok-readings.ensures.readings c.as_slice.ensures c.in_ok-set.ensures.seen

pub returns-clause-ordered : goal.returns-clause-ordered
returns-clause-ordered c =
    let m = c.in_ok-recorded.recorded in
    let shapes = c.args.shapes.now in
    race_ordered c.args.order.now shapes m (matrix_of m shapes c.in_ok-recorded.ensures.count c.in_ok-recorded.ensures.square) c.in_ok-recorded.ensures.recorded
    c.in_ok-readings.readings c.as_slice.result.now c.in_ok-outcomes.outcomes c.as_slice-2.result.now c.in_ok-set.set.ordered c.in_ok-readings.ensures.readings c.as_slice.ensures
    c.in_ok-outcomes.ensures c.as_slice-2.ensures c.in_ok-set.ensures.ordered

pub returns-clause-once : goal.returns-clause-once
returns-clause-once c = c.in_ok-set.ensures.ordered.once

pub returns-clause-seen_once : goal.returns-clause-seen_once
returns-clause-seen_once c =
    seen_apart c.args.shapes.now (recorded_in c.in_ok-recorded.recorded) c.in_ok-readings.readings c.as_slice.result.now c.in_ok-readings.ensures.readings
    c.in_ok-readings.ensures.order c.as_slice.ensures c.in_ok-set.set.seen c.in_ok-set.ensures.seen

pub returns-clause-seen_order : goal.returns-clause-seen_order
returns-clause-seen_order c =
    seen_ordered c.args.shapes.now (recorded_in c.in_ok-recorded.recorded) c.in_ok-readings.readings c.as_slice.result.now c.in_ok-readings.ensures.readings
    c.in_ok-readings.ensures.order c.as_slice.ensures c.in_ok-set.set.seen c.in_ok-set.ensures.seen

pub returns-clause-ordered_order : goal.returns-clause-ordered_order
returns-clause-ordered_order c = c.in_ok-set.ensures.ordered.order

use Rattle.std.proofs.Common.{◌≤◌, length, arith}
use Rattle.sat_trail.specs.Watching.{row_in}
use Rattle.sat_trail.proofs.RowVisits.{half-keep, half-push, half-move, half-end, half-false}
use Rattle.sat_trail.proofs.Blocking.{half-block}
use Rattle.sat_trail.proofs.propagate.visit_row.Goals as goal

pub look_at-requires-clause-is_false : goal.look_at-requires-clause-is_false
look_at-requires-clause-is_false c =
    half-false c.args.trail.now c.args.index.now c.loop-place.trail c.loop-place.index c.args.at c.opposite-from.result c.loop-place.place c.loop-place.invariant

pub loop-place-preserved-in-Keep : goal.loop-place-preserved-in-Keep
loop-place-preserved-in-Keep c =
    half-keep c.args.trail.now c.args.index.now c.loop-place.trail c.loop-place.index c.args.at c.opposite-from.result c.loop-place.place c.loop-place.invariant c.in-Keep.ensures

pub loop-place-preserved-in-Block : goal.loop-place-preserved-in-Block
loop-place-preserved-in-Block c =
    half-block c.args.trail.now c.args.index.now c.loop-place.trail c.loop-place.index c.set_blocker.new.self c.args.at c.opposite-from.result c.loop-place.place
    c.loop-place.invariant (c.in-Block.ensures).0 c.set_blocker.ensures

pub loop-place-preserved-in-Continue-1 : goal.loop-place-preserved-in-Continue-1
loop-place-preserved-in-Continue-1 c =
    half-move c.args.trail.now c.args.index.now c.loop-place.trail c.loop-place.index c.move_watch.new.self c.args.at c.opposite-from.result c.loop-place.place c.in-Move.clause c.in-Move.stay c.in-Move.to
    c.loop-place.invariant (c.in-Move.ensures).0 (c.in-Move.ensures).1 c.in_ok-move_watch-in-Move.ensures.ok c.row_len.ensures.indexed

pub loop-place-preserved : goal.loop-place-preserved
loop-place-preserved c =
    half-push c.args.trail.now c.args.index.now c.loop-place.trail c.push.new.self c.loop-place.index c.args.at c.opposite-from.result c.loop-place.place c.in-Push.clause c.in-Push.lit
    c.loop-place.invariant c.in-Push.ensures c.in_ok-push-in-Push.ensures.ok

pub returns : goal.returns
returns c =
    let done : length (row_in c.loop-place.index.rows c.opposite-from.result) ≤ c.loop-place.place = omega arith in
    half-end c.args.trail.now c.args.index.now c.loop-place.trail c.loop-place.index c.args.at c.opposite-from.result c.loop-place.place c.loop-place.invariant done

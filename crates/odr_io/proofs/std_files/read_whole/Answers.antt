use Rattle.std.proofs.Common.{◌+◌, ◌<◌, length, take, arith, length-take}
use Rattle.odr_io.proofs.Pieces.{more_than}
use Rattle.odr_io.proofs.std_files.read_whole.Goals as goal

pub returns-then-count-limit-clause-too_long : goal.returns-then-count-limit-clause-too_long
returns-then-count-limit-clause-too_long g c = λ _.
    let piece = take c.in_ok-count.count c.read.new.into in
    let more : c.args.limit < length c.loop-count.into.items + length piece =
    omega (arith, length-take c.in_ok-count.count c.read.new.into, c.in_ok-count.ensures.bound, c.loop-count.into.ok) in
    more_than (g.S.Source.left c.args.source.now) (g.S.Source.left c.loop-count.source) (g.S.Source.left c.read.new.self)
    c.args.into.now.items c.loop-count.into.items piece c.args.limit
    c.loop-count.invariant.same c.in_ok-count.ensures.handed more

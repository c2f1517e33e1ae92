use Rattle.std.proofs.Common.{arith}
use Rattle.race_set.specs.Places.{recorded_in}
use Rattle.race_set.proofs.Gathered.{readers_more, readers_all}
use Rattle.race_set.proofs.reading.readings_of.Goals as goal

pub loop-reader-preserved : goal.loop-reader-preserved
loop-reader-preserved c = (
  readers_more c.args.shapes.now (recorded_in c.args.recorded.now) c.loop-reader.reader c.loop-reader.readings c.add_reader.new.readings
      c.loop-reader.invariant.0 c.in_ok-add_reader.ensures.readings,
  c.in_ok-add_reader.ensures.order c.loop-reader.invariant.1,
)

pub returns-clause-readings : goal.returns-clause-readings
returns-clause-readings c =
    readers_all c.args.shapes.now (recorded_in c.args.recorded.now) c.loop-reader.reader c.loop-reader.readings (omega (arith, c.loop-reader-test.false))
    c.loop-reader.invariant.0

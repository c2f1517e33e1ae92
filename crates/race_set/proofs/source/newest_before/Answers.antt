use Rattle.std.proofs.Common.{ℕ, ◌+◌, Option, sym, subst}
use Rattle.race_set.specs.Places.{recorded_in}
use Rattle.race_set.proofs.NewestWrite.{IsNewestOf, newest_more}
use Rattle.race_set.proofs.source.newest_before.Goals as goal

pub loop-other-preserved : goal.loop-other-preserved
loop-other-preserved c =
    subst (λ (o : Option ℕ). IsNewestOf c.args.shapes.now (recorded_in c.args.recorded.now) c.args.byte c.args.reader (c.loop-other.other + 1) o)
    (sym c.later-newest.ensures)
    (newest_more c.args.shapes.now (recorded_in c.args.recorded.now) c.args.byte c.args.reader c.loop-other.other c.loop-other.newest
    c.loop-other-test.true c.loop-other.invariant)

use Rattle.std.specs.Prelude.{◌-◌, length}
use Rattle.schedule_extract.specs.Marks.{ArePassed}
use Rattle.schedule_extract.proofs.marks.pass.Given as goal

abbrev pub invariant-loop-mark : goal.invariant-loop-mark
invariant-loop-mark l = ArePassed l.pairs l.next l.at l.mark

abbrev pub decreases-loop-mark : goal.decreases-loop-mark
decreases-loop-mark l = length l.pairs - l.mark

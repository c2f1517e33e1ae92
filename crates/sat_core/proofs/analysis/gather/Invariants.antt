use Rattle.std.proofs.Common.{◌≡◌, length}
use Rattle.sat_core.specs.Analyses.{IsGathered}
use Rattle.sat_core.proofs.analysis.gather.Given as goal

abbrev pub invariant-loop-at : goal.invariant-loop-at
invariant-loop-at l =
    record {
      sized : length l.marks.items ≡ l.engine.vars;
      gathered : IsGathered l.engine l.is_first l.marks.items l.cut.key l.at l.line.items l.jump;
    }

abbrev pub decreases-loop-at : goal.decreases-loop-at
decreases-loop-at l = l.at

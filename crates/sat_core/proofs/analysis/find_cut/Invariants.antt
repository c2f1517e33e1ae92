use Rattle.std.proofs.Common.{◌≡◌, ◌≤◌, [], length}
use Rattle.sat_core.specs.Analyses.{IsLeft}
use Rattle.sat_core.proofs.analysis.find_cut.Given as goal

abbrev pub invariant-loop-at : goal.invariant-loop-at
invariant-loop-at l =
    record {
      bound : l.at ≤ length l.engine.steps;
      sized : length l.marks.items ≡ l.engine.vars;
      left : IsLeft l.engine.clauses l.engine.steps l.marks.items l.at [];
    }

abbrev pub decreases-loop-at : goal.decreases-loop-at
decreases-loop-at l = l.at

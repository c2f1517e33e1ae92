use Rattle.std.proofs.Common.{◌≤◌, ◌-◌, length}
use Rattle.sat_core.specs.Searching.{IsBottom, IsDescent, IsSoFar}
use Rattle.sat_core.proofs.search.search.Given as goal

abbrev pub invariant-loop-clash : goal.invariant-loop-clash
invariant-loop-clash l =
    record {
      so_far : IsSoFar l.clauses l.first l.budget l.lines;
      descent : IsDescent l.clauses.vars l.clauses.clauses l.first l.lines l.engine;
      bottom : IsBottom l.engine l.clash;
      grown : length l.fn.lines ≤ length l.lines;
    }

abbrev pub decreases-loop-clash : goal.decreases-loop-clash
decreases-loop-clash l = l.budget - length l.lines

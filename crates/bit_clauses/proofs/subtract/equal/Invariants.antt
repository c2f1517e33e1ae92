use Rattle.bit_clauses.proofs.Comparisons.{IsCompared}
use Rattle.bit_clauses.proofs.subtract.equal.Given as goal

abbrev pub invariant-loop-i : goal.invariant-loop-i
invariant-loop-i l = IsCompared l.initial.clauses l.clauses l.left l.right l.fn.yes l.all l.i

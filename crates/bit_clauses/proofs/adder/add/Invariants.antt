use Rattle.bit_clauses.proofs.Adders.{IsSummed}
use Rattle.bit_clauses.proofs.adder.add.Given as goal

abbrev pub invariant-loop-i : goal.invariant-loop-i
invariant-loop-i l = IsSummed l.initial.clauses l.clauses l.left l.right l.bits l.fn.first l.carry l.i

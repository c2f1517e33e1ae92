use Rattle.bit_clauses.proofs.Divisions.{IsDivided}
use Rattle.bit_clauses.proofs.division.divide.Given as goal

abbrev pub invariant-loop-i : goal.invariant-loop-i
invariant-loop-i l = IsDivided l.initial.clauses l.clauses l.left l.right l.quotient l.rest l.fn.yes l.i

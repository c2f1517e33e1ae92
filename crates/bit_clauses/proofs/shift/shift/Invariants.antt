use Rattle.bit_clauses.proofs.Shifts.{IsShifted}
use Rattle.bit_clauses.proofs.shift.shift.Given as goal

abbrev pub invariant-loop-i : goal.invariant-loop-i
invariant-loop-i l = IsShifted l.initial.clauses l.clauses l.way l.lits l.amount l.current l.fn.no l.i

use Rattle.bit_clauses.proofs.Marking.{IsMarking}
use Rattle.bit_clauses.proofs.marks.mark_needed.Given as goal

abbrev pub invariant-loop-i : goal.invariant-loop-i
invariant-loop-i l = IsMarking l.pool l.fn.root.number l.marks l.i

use Rattle.bit_clauses.proofs.Tables.{IsPicked}
use Rattle.bit_clauses.proofs.byte_select.byte_select.Given as goal

abbrev pub invariant-loop-i : goal.invariant-loop-i
invariant-loop-i l = IsPicked l.initial.clauses l.clauses l.first l.bytes l.index l.chosen l.yes l.i

use Rattle.source_clauses.specs.Clauses.{AreNexts}
use Rattle.source_clauses.proofs.newest.nexts_of.Given as goal

abbrev pub invariant-loop-i : goal.invariant-loop-i
invariant-loop-i l = AreNexts l.table l.candidates l.i l.nexts

use Rattle.source_clauses.specs.Olders.{AreOlders}
use Rattle.source_clauses.proofs.olders.olders_of.Given as goal

abbrev pub invariant-loop-i : goal.invariant-loop-i
invariant-loop-i l = AreOlders l.initial.clauses l.clauses l.table l.reader l.i l.olders

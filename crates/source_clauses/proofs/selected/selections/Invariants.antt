use Rattle.source_clauses.proofs.Pieces.{AreFresh}
use Rattle.source_clauses.proofs.selected.selections.Given as goal

abbrev pub invariant-loop : goal.invariant-loop
invariant-loop l = AreFresh l.initial.clauses l.clauses l.count l.counter l.selected

use Rattle.order_clauses.proofs.Numbered.{IsNumbered}
use Rattle.order_clauses.proofs.numbering.table_of.Given as goal

abbrev pub invariant-loop-k : goal.invariant-loop-k
invariant-loop-k l = IsNumbered l.initial.clauses l.clauses l.count l.fn.recorded l.numbers l.pairs l.k

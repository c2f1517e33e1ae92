use Rattle.std.proofs.Common.{ℕ}
use Rattle.order_clauses.specs.Clauses.{PairClause}
use Rattle.order_clauses.specs.Grid.{lit_in}
use Rattle.order_clauses.proofs.Added.{Added}
use Rattle.order_clauses.proofs.neighbours.add_neighbour.Given as goal

abbrev pub invariant-loop-x : goal.invariant-loop-x
invariant-loop-x l = Added l.initial.clauses l.clauses l.table.count (λ (x : ℕ). PairClause (lit_in l.table x l.b) (lit_in l.table l.a x)) l.x

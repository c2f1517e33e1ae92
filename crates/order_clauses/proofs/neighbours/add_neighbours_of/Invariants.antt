use Rattle.std.proofs.Common.{ℕ}
use Rattle.order_clauses.specs.Clauses.{NeighbourClause}
use Rattle.order_clauses.specs.Grid.{recorded_in, lit_in}
use Rattle.order_clauses.proofs.Added.{Added}
use Rattle.order_clauses.proofs.neighbours.add_neighbours_of.Given as goal

abbrev pub invariant-loop-b : goal.invariant-loop-b
invariant-loop-b l = Added l.initial.clauses l.clauses l.table.count (λ (b : ℕ). NeighbourClause l.table.count (recorded_in l.table) (lit_in l.table) l.a b) l.b

use Rattle.std.proofs.Common.{ℕ}
use Rattle.order_clauses.specs.Clauses.{Below, NeighbourClause}
use Rattle.order_clauses.specs.Grid.{recorded_in, lit_in}
use Rattle.order_clauses.proofs.Added.{Added}
use Rattle.order_clauses.proofs.neighbours.add_neighbours.Given as goal

abbrev pub invariant-loop-a : goal.invariant-loop-a
invariant-loop-a l = Added l.initial.clauses l.clauses l.table.count (λ (a : ℕ). Below l.table.count (λ b. NeighbourClause l.table.count (recorded_in l.table) (lit_in l.table) a b)) l.a

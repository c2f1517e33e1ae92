use Rattle.std.proofs.Common.{ℕ}
use Rattle.order_clauses.specs.Clauses.{RingClause}
use Rattle.order_clauses.specs.Grid.{lit_in}
use Rattle.order_clauses.proofs.Added.{Added}
use Rattle.order_clauses.proofs.rings.add_rings_of_two.Given as goal

abbrev pub invariant-loop-k : goal.invariant-loop-k
invariant-loop-k l = Added l.initial.clauses l.clauses l.j (λ (k : ℕ). RingClause (lit_in l.table) l.i l.j k) l.k

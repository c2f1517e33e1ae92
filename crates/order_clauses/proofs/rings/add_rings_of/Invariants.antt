use Rattle.std.proofs.Common.{ℕ}
use Rattle.order_clauses.specs.Clauses.{Below, RingClause}
use Rattle.order_clauses.specs.Grid.{lit_in}
use Rattle.order_clauses.proofs.Added.{Added}
use Rattle.order_clauses.proofs.rings.add_rings_of.Given as goal

abbrev pub invariant-loop-j : goal.invariant-loop-j
invariant-loop-j l = Added l.initial.clauses l.clauses l.i (λ (j : ℕ). Below j (λ k. RingClause (lit_in l.table) l.i j k)) l.j

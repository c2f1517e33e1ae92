use Rattle.std.proofs.Common.{ℕ}
use Rattle.order_clauses.specs.Clauses.{Below, RingClause}
use Rattle.order_clauses.specs.Grid.{lit_in}
use Rattle.order_clauses.proofs.Added.{Added}
use Rattle.order_clauses.proofs.rings.add_rings.Given as goal

abbrev pub invariant-loop-i : goal.invariant-loop-i
invariant-loop-i l = Added l.initial.clauses l.clauses l.table.count (λ (i : ℕ). Below i (λ j. Below j (λ k. RingClause (lit_in l.table) i j k))) l.i

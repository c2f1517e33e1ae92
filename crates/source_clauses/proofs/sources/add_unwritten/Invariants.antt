use Rattle.std.proofs.Common.{ℕ, List, length}
use Rattle.std.specs.Prelude.{Contains}
use Rattle.clause_store.specs.declared.lit.Lit.{Lit}
use Rattle.order_clauses.specs.declared.order_lit.OrderLit.TheVariants as order_lit
use Rattle.source_clauses.specs.Clauses.{implied, selection_at, older_at}
use Rattle.order_clauses.proofs.Added.{Added}
use Rattle.source_clauses.proofs.sources.add_unwritten.Given as goal

abbrev pub invariant-loop-j : goal.invariant-loop-j
invariant-loop-j l = Added l.initial.clauses l.clauses (length l.reader.candidates) (λ (j : ℕ). λ (k : List Lit). Contains (implied (selection_at l.named.selected (length l.reader.candidates)) (older_at l.named.olders j) order_lit.Never) k) l.j

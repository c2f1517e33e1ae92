use Rattle.std.proofs.Common.{ℕ, List, length}
use Rattle.std.specs.Prelude.{Contains}
use Rattle.clause_store.specs.declared.lit.Lit.{Lit}
use Rattle.order_clauses.specs.declared.order_lit.OrderLit.TheVariants as order_lit
use Rattle.source_clauses.specs.Clauses.{implied, selection_at, older_at}
use Rattle.order_clauses.proofs.Added.{Added}
use Rattle.source_clauses.proofs.sources.add_older.Given as goal

abbrev pub invariant-loop-i : goal.invariant-loop-i
invariant-loop-i l = Added l.initial.clauses l.clauses (length l.reader.candidates) (λ (i : ℕ). λ (k : List Lit). Contains (implied (selection_at l.named.selected i) order_lit.Always (older_at l.named.olders i)) k) l.i

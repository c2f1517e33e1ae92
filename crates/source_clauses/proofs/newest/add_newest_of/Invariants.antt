use Rattle.std.proofs.Common.{ℕ, List, length}
use Rattle.std.specs.Prelude.{Contains}
use Rattle.clause_store.specs.declared.lit.Lit.{Lit}
use Rattle.source_clauses.specs.Clauses.{newest}
use Rattle.order_clauses.proofs.Added.{Added}
use Rattle.source_clauses.proofs.newest.add_newest_of.Given as goal

abbrev pub invariant-loop-j : goal.invariant-loop-j
invariant-loop-j l = Added l.initial.clauses l.clauses (length l.reader.candidates) (λ (j : ℕ). λ (k : List Lit). Contains (newest l.table l.reader.candidates l.named.nexts l.named.selected l.named.olders l.i j) k) l.j

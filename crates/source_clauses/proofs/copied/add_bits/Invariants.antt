use Rattle.std.proofs.Common.{ℕ, List, length}
use Rattle.std.specs.Prelude.{Contains}
use Rattle.clause_store.specs.declared.lit.Lit.{Lit}
use Rattle.source_clauses.specs.Sees.{bit_at}
use Rattle.source_clauses.specs.Clauses.{copied}
use Rattle.order_clauses.proofs.Added.{Added}
use Rattle.source_clauses.proofs.copied.add_bits.Given as goal

abbrev pub invariant-loop-b : goal.invariant-loop-b
invariant-loop-b l = Added l.initial.clauses l.clauses (length l.read) (λ (b : ℕ). λ (k : List Lit). Contains (copied l.selection (bit_at l.bits b) (bit_at l.read b)) k) l.b

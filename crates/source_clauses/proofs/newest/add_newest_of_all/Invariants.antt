use Rattle.std.proofs.Common.{ℕ, length}
use Rattle.source_clauses.specs.Clauses.{NewestOf}
use Rattle.order_clauses.proofs.Added.{Added}
use Rattle.source_clauses.proofs.newest.add_newest_of_all.Given as goal

abbrev pub invariant-loop-i : goal.invariant-loop-i
invariant-loop-i l = Added l.initial.clauses l.clauses (length l.reader.candidates) (λ (i : ℕ). NewestOf l.table l.reader.candidates l.named.nexts l.named.selected l.named.olders i) l.i

use Rattle.std.proofs.Common.{ℕ, length}
use Rattle.source_clauses.specs.Sees.{candidate_at}
use Rattle.source_clauses.specs.Clauses.{Copied, selection_at}
use Rattle.order_clauses.proofs.Added.{Added}
use Rattle.source_clauses.proofs.sources.add_written.Given as goal

abbrev pub invariant-loop-i : goal.invariant-loop-i
invariant-loop-i l = Added l.initial.clauses l.clauses (length l.reader.candidates) (λ (i : ℕ). Copied (selection_at l.named.selected i) (candidate_at l.reader.candidates i).bits l.reader.read) l.i

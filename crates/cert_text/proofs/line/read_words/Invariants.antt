use Rattle.std.proofs.Common.{length}
use Rattle.cert_text.proofs.Words.{IsBegun}
use Rattle.cert_text.proofs.line.read_words.Given as goal

abbrev pub invariant-loop-word : goal.invariant-loop-word
invariant-loop-word l = record { begun : IsBegun l.fn.words l.line l.last l.rest }

abbrev pub decreases-loop-word : goal.decreases-loop-word
decreases-loop-word l = length l.rest

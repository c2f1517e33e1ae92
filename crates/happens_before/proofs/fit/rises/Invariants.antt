use Rattle.happens_before.proofs.FitLemmas.{Rises}
use Rattle.happens_before.proofs.fit.rises.Given as goal

abbrev pub invariant-loop-made : goal.invariant-loop-made
invariant-loop-made l = Rises l.records l.least l.made-index

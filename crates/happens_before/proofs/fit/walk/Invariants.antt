use Rattle.happens_before.proofs.PassLemmas.{Walked}
use Rattle.happens_before.proofs.fit.walk.Given as goal

abbrev pub invariant-loop-made : goal.invariant-loop-made
invariant-loop-made l = Walked l.records l.shared l.made-index

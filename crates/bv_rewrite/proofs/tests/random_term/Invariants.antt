use Rattle.bv_rewrite.specs.Bytes.{AreBytes}
use Rattle.bv_rewrite.proofs.tests.random_term.Given as goal

abbrev pub invariant-loop-i : goal.invariant-loop-i
invariant-loop-i l = AreBytes l.pool l.terms.first.number l.terms.second.number l.terms.third.number

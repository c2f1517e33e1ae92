use Rattle.bv_rewrite.proofs.RuleLemmas.{and_zero, mul_zero}
use Rattle.bv_rewrite.proofs.rules.zero.Goals as goal

pub returns-in-And : goal.returns-in-And
returns-in-And c = and_zero c.args.view c.in-And.is (c.has_zero.ensures c.if-not-has_zero.false)

pub returns-in-Mul : goal.returns-in-Mul
returns-in-Mul c = mul_zero c.args.view c.in-Mul.is (c.has_zero.ensures c.if-not-has_zero.false)

use Rattle.bv_rewrite.proofs.RuleLemmas.{and_same, eq_same, or_same, shown, slt_same, sub_same, ult_same, xor_same}
use Rattle.bv_rewrite.proofs.rules.same.Goals as goal

pub returns-in-And : goal.returns-in-And
returns-in-And c = and_same c.args.view c.in-And.is (shown c.args.view.same c.if-not-view.false)

pub returns-in-Or : goal.returns-in-Or
returns-in-Or c = or_same c.args.view c.in-Or.is (shown c.args.view.same c.if-not-view.false)

pub returns-in-Sub : goal.returns-in-Sub
returns-in-Sub c = sub_same c.args.view c.in-Sub.is (shown c.args.view.same c.if-not-view.false)

pub returns-in-Xor : goal.returns-in-Xor
returns-in-Xor c = xor_same c.args.view c.in-Xor.is (shown c.args.view.same c.if-not-view.false)

pub returns-in-Ult : goal.returns-in-Ult
returns-in-Ult c = ult_same c.args.view c.in-Ult.is (shown c.args.view.same c.if-not-view.false)

pub returns-in-Slt : goal.returns-in-Slt
returns-in-Slt c = slt_same c.args.view c.in-Slt.is (shown c.args.view.same c.if-not-view.false)

pub returns-in-Eq : goal.returns-in-Eq
returns-in-Eq c = eq_same c.args.view c.in-Eq.is (shown c.args.view.same c.if-not-view.false)

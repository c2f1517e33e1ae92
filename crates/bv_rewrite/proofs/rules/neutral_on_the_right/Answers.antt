use Rattle.std.proofs.Common.{subst, sym}
use Rattle.std.proofs.lemmas.Option.{IfSome_then}
use Rattle.bv_terms.specs.declared.node.BinOp.{BinOp}
use Rattle.bv_rewrite.specs.Neutral.{IsNeutralRight}
use Rattle.bv_rewrite.proofs.RuleLemmas.{add_right, and_right, ashr_right, lshr_right, mul_right, or_right, shl_right, sub_right, udiv_right, xor_right}
use Rattle.bv_rewrite.proofs.rules.neutral_on_the_right.Goals as goal

pub returns-in-Add : goal.returns-in-Add
returns-in-Add c = subst (λ (o : BinOp). IsNeutralRight o c.args.width 0) (sym c.in-Add.is) (add_right c.args.width)

pub returns-in-Sub : goal.returns-in-Sub
returns-in-Sub c = subst (λ (o : BinOp). IsNeutralRight o c.args.width 0) (sym c.in-Sub.is) (sub_right c.args.width)

pub returns-in-Or : goal.returns-in-Or
returns-in-Or c = subst (λ (o : BinOp). IsNeutralRight o c.args.width 0) (sym c.in-Or.is) (or_right c.args.width)

pub returns-in-Xor : goal.returns-in-Xor
returns-in-Xor c = subst (λ (o : BinOp). IsNeutralRight o c.args.width 0) (sym c.in-Xor.is) (xor_right c.args.width)

pub returns-in-Shl : goal.returns-in-Shl
returns-in-Shl c = subst (λ (o : BinOp). IsNeutralRight o c.args.width 0) (sym c.in-Shl.is) (shl_right c.args.width)

pub returns-in-Lshr : goal.returns-in-Lshr
returns-in-Lshr c = subst (λ (o : BinOp). IsNeutralRight o c.args.width 0) (sym c.in-Lshr.is) (lshr_right c.args.width)

pub returns-in-Ashr : goal.returns-in-Ashr
returns-in-Ashr c = subst (λ (o : BinOp). IsNeutralRight o c.args.width 0) (sym c.in-Ashr.is) (ashr_right c.args.width)

pub returns-in-Mul : goal.returns-in-Mul
returns-in-Mul c = subst (λ (o : BinOp). IsNeutralRight o c.args.width 1) (sym c.in-Mul.is) (mul_right c.args.width)

pub returns-in-Udiv : goal.returns-in-Udiv
returns-in-Udiv c = subst (λ (o : BinOp). IsNeutralRight o c.args.width 1) (sym c.in-Udiv.is) (udiv_right c.args.width)

pub returns-in-And : goal.returns-in-And
returns-in-And c =
    IfSome_then c.all_ones.result c.all_ones.ensures (λ ones is. subst (λ (o : BinOp). IsNeutralRight o c.args.width ones) (sym c.in-And.is) (and_right c.args.width ones is))

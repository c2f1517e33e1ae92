use Rattle.std.proofs.Common.{subst, sym}
use Rattle.std.proofs.lemmas.Option.{IfSome_then}
use Rattle.bv_terms.specs.declared.node.BinOp.{BinOp}
use Rattle.bv_rewrite.specs.Neutral.{IsNeutralLeft}
use Rattle.bv_rewrite.proofs.RuleLemmas.{add_left, and_left, mul_left, or_left, xor_left}
use Rattle.bv_rewrite.proofs.rules.neutral_on_the_left.Goals as goal

pub returns-in-Add : goal.returns-in-Add
returns-in-Add c = subst (λ (o : BinOp). IsNeutralLeft o c.args.width 0) (sym c.in-Add.is) (add_left c.args.width)

pub returns-in-Or : goal.returns-in-Or
returns-in-Or c = subst (λ (o : BinOp). IsNeutralLeft o c.args.width 0) (sym c.in-Or.is) (or_left c.args.width)

pub returns-in-Xor : goal.returns-in-Xor
returns-in-Xor c = subst (λ (o : BinOp). IsNeutralLeft o c.args.width 0) (sym c.in-Xor.is) (xor_left c.args.width)

pub returns-in-Mul : goal.returns-in-Mul
returns-in-Mul c = subst (λ (o : BinOp). IsNeutralLeft o c.args.width 1) (sym c.in-Mul.is) (mul_left c.args.width)

pub returns-in-And : goal.returns-in-And
returns-in-And c =
    IfSome_then c.all_ones.result c.all_ones.ensures (λ ones is. subst (λ (o : BinOp). IsNeutralLeft o c.args.width ones) (sym c.in-And.is) (and_left c.args.width ones is))

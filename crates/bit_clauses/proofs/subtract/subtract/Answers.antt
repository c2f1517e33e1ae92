use Rattle.std.proofs.Common.{subst, sym, ◌∙◌}
use Rattle.clause_store.specs.Formula.{IsKnown}
use Rattle.bit_clauses.proofs.Comparisons.{difference, known-opposite}
use Rattle.bit_clauses.proofs.subtract.subtract.Goals as goal

pub add-requires-clause-right_known : goal.add-requires-clause-right_known
add-requires-clause-right_known c = subst (IsKnown c.args.clauses.now.vars) (sym (c.as_slice.ensures ∙ c.in_ok-turned.ensures)) (known-opposite c.args.clauses.now.vars c.args.right.now c.requires.right_known)

pub returns-clause-circuit : goal.returns-clause-circuit
returns-clause-circuit c =
    difference c.args.clauses.now c.add.new.clauses c.args.left.now c.args.right.now c.as_slice.result.now c.in_ok-sum.sum.bits c.in_ok-sum.sum.carry c.args.yes
    (c.as_slice.ensures ∙ c.in_ok-turned.ensures) c.requires.same_width c.in_ok-sum.ensures.circuit

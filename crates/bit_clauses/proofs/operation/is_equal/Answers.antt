use Rattle.std.proofs.Common.{nat_eq, refl}
use Rattle.bv_terms.specs.declared.node.BinOp.TheVariants as op
use Rattle.bit_clauses.specs.Spelled.{spelled}
use Rattle.bit_clauses.proofs.Operations.{by_test}
use Rattle.bit_clauses.proofs.operation.is_equal.Goals as goal

pub returns-clause-spells : goal.returns-clause-spells
returns-clause-spells c =
    let left = c.args.left.now in
    let right = c.args.right.now in
    by_test c.args.clauses.now c.equal.new.clauses op.Eq left right c.in_ok-bits.bits c.args.yes c.in_ok-test.test (λ w. nat_eq (spelled w left) (spelled w right))
    c.in_ok-bits.ensures refl c.in_ok-test.ensures.known c.in_ok-test.ensures.circuit (λ w. refl)

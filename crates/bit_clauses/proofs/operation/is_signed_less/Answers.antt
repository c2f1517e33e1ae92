use Rattle.std.proofs.Common.{length, refl, ap}
use Rattle.bv_terms.specs.BitVectors.{bit_of, bits, is_signed_less}
use Rattle.bv_terms.specs.declared.node.BinOp.TheVariants as op
use Rattle.bit_clauses.specs.Spelled.{spelled}
use Rattle.bit_clauses.proofs.Operations.{by_test}
use Rattle.bit_clauses.proofs.operation.is_signed_less.Goals as goal

pub returns-clause-spells : goal.returns-clause-spells
returns-clause-spells c =
    let left = c.args.left.now in
    let right = c.args.right.now in
    by_test c.args.clauses.now c.signed_less.new.clauses op.Slt left right c.in_ok-bits.bits c.args.yes c.in_ok-test.test (λ w. is_signed_less (bits (length left) (spelled w left)) (bits (length left) (spelled w right)))
    c.in_ok-bits.ensures refl c.in_ok-test.ensures.known c.in_ok-test.ensures.circuit (λ w. ap (λ n. bit_of (is_signed_less (bits (length left) (spelled w left)) (bits n (spelled w right)))) c.requires.same_width)

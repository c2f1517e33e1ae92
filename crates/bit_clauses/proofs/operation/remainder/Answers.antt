use Rattle.std.proofs.Common.{◌≡◌, true, length}
use Rattle.bv_terms.specs.BitVectors.{bits, udiv_value, urem_value}
use Rattle.bv_terms.specs.declared.node.BinOp.TheVariants as op
use Rattle.clause_store.specs.Literals.{literal_value}
use Rattle.bit_clauses.specs.Circuit.{DecidesAll}
use Rattle.bit_clauses.specs.Spelled.{spelled}
use Rattle.bit_clauses.proofs.Operations.{by_sure}
use Rattle.bit_clauses.proofs.operation.remainder.Goals as goal

pub returns-clause-spells : goal.returns-clause-spells
returns-clause-spells c =
    let left = c.args.left.now in
    let right = c.args.right.now in
    let r = c.in_ok-division.division in
    by_sure c.args.clauses.now c.divide.new.clauses op.Urem left right r.remainder c.args.yes (λ v. DecidesAll v r.quotient × DecidesAll v r.remainder)
    (λ w. literal_value w c.args.yes ≡ true
    → (spelled w r.quotient ≡ udiv_value (bits (length left) (spelled w left)) (bits (length left) (spelled w right)))
    × (spelled w r.remainder ≡ urem_value (bits (length left) (spelled w left)) (bits (length left) (spelled w right))))
    c.in_ok-division.ensures.remainder_width c.in_ok-division.ensures.remainder_known c.in_ok-division.ensures.circuit (λ v h. h.1) (λ w t m. (m t).1)

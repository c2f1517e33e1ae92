use Rattle.std.proofs.Common.{◌≡◌, ◌+◌, ◌*◌, ◌^◌, ◌<◌, length, ◌∙◌, ap, subst}
use Rattle.bv_terms.specs.BitVectors.{bit_of}
use Rattle.bv_terms.specs.declared.node.BinOp.TheVariants as op
use Rattle.bit_clauses.specs.Circuit.{Decides, DecidesAll}
use Rattle.bit_clauses.specs.Spelled.{bit, spelled}
use Rattle.bit_clauses.proofs.Numbers.{spelled_small}
use Rattle.bit_clauses.proofs.Operations.{by_nil, nil_known, sum_same}
use Rattle.bit_clauses.proofs.operation.sum.Goals as goal

pub add-requires-clause-first_known : goal.add-requires-clause-first_known
add-requires-clause-first_known c = nil_known c.args.clauses.now.vars c.args.yes c.opposite-no.result c.opposite-no.ensures c.requires.yes_known

pub returns-clause-spells : goal.returns-clause-spells
returns-clause-spells c =
    let left = c.args.left.now in
    let right = c.args.right.now in
    let bits = c.in_ok-sum.sum.bits in
    let carry = c.in_ok-sum.sum.carry in
    let nil = c.opposite-no.result in
    by_nil c.args.clauses.now c.add.new.clauses op.Add left right bits c.args.yes nil (λ v. DecidesAll v bits × Decides v carry)
    (λ w. spelled w bits + 2 ^ length left * bit w carry ≡ spelled w left + spelled w right + bit w nil) c.opposite-no.ensures
    c.in_ok-sum.ensures.width c.in_ok-sum.ensures.bits_known c.in_ok-sum.ensures.circuit (λ v h. h.0)
    (λ w t m.
    sum_same (spelled w bits) (2 ^ length left) (bit w carry) (spelled w left) (spelled w right) (m ∙ ap (λ b. spelled w left + spelled w right + bit_of b) t)
    (subst (λ n. spelled w bits < 2 ^ n) c.in_ok-sum.ensures.width (spelled_small w bits)))

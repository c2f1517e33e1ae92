use Rattle.std.proofs.Common.{◌≡◌, ◌+◌, ◌*◌, ◌^◌, ◌<◌, true, length, subst, sym}
use Rattle.bv_terms.specs.declared.node.BinOp.TheVariants as op
use Rattle.clause_store.specs.Literals.{literal_value}
use Rattle.bit_clauses.specs.Circuit.{Decides, DecidesAll}
use Rattle.bit_clauses.specs.Spelled.{bit, spelled}
use Rattle.bit_clauses.proofs.Numbers.{spelled_small}
use Rattle.bit_clauses.proofs.Operations.{by_sure, difference_same}
use Rattle.bit_clauses.proofs.operation.difference.Goals as goal

pub returns-clause-spells : goal.returns-clause-spells
returns-clause-spells c =
    let left = c.args.left.now in
    let right = c.args.right.now in
    let bits = c.in_ok-difference.difference.bits in
    let carry = c.in_ok-difference.difference.carry in
    by_sure c.args.clauses.now c.subtract.new.clauses op.Sub left right bits c.args.yes (λ v. DecidesAll v bits × Decides v carry)
    (λ w. literal_value w c.args.yes ≡ true → spelled w bits + 2 ^ length left * bit w carry + spelled w right ≡ spelled w left + 2 ^ length left)
    c.in_ok-difference.ensures.width c.in_ok-difference.ensures.bits_known c.in_ok-difference.ensures.circuit (λ v h. h.0)
    (λ w t m.
    difference_same (spelled w bits) (2 ^ length left) (bit w carry) (spelled w left) (spelled w right) (m t)
    (subst (λ n. spelled w bits < 2 ^ n) c.in_ok-difference.ensures.width (spelled_small w bits))
    (subst (λ n. spelled w right < 2 ^ n) (sym c.requires.same_width) (spelled_small w right)))

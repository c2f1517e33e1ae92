use Rattle.std.proofs.Common.{◌≡◌, ◌+◌, ◌*◌, ◌^◌, true, length, nat_lt, subst, sym}
use Rattle.clause_store.specs.declared.lit.Lit.{Lit}
use Rattle.clause_store.specs.Literals.{literal_value, opposite}
use Rattle.bit_clauses.specs.Circuit.{IsCircuit, Decides, DecidesAll}
use Rattle.bit_clauses.specs.Spelled.{bit, spelled}
use Rattle.bit_clauses.proofs.Circuits.{said}
use Rattle.bit_clauses.proofs.Comparisons.{below_by_carry}
use Rattle.bit_clauses.proofs.subtract.less.Goals as goal

pub returns-clause-circuit : goal.returns-clause-circuit
returns-clause-circuit c =
    let left = c.args.left.now in
    let right = c.args.right.now in
    let bits = c.in_ok-difference.difference.bits in
    let carry = c.in_ok-difference.difference.carry in
    subst (λ (out : Lit). IsCircuit c.args.clauses.now c.subtract.new.clauses (λ v. DecidesAll v left × DecidesAll v right × Decides v c.args.yes) (λ v. Decides v out)
    (λ w. literal_value w c.args.yes ≡ true → literal_value w out ≡ nat_lt (spelled w left) (spelled w right)))
    (sym c.opposite.ensures)
    (said c.args.clauses.now c.subtract.new.clauses (λ v. DecidesAll v left × DecidesAll v right × Decides v c.args.yes) (λ v. DecidesAll v left × DecidesAll v right × Decides v c.args.yes)
    (λ v. DecidesAll v bits × Decides v carry) (λ v. Decides v carry)
    (λ w. literal_value w c.args.yes ≡ true → spelled w bits + 2 ^ length left * bit w carry + spelled w right ≡ spelled w left + 2 ^ length left)
    (λ w. literal_value w c.args.yes ≡ true → literal_value w (opposite carry) ≡ nat_lt (spelled w left) (spelled w right))
    c.in_ok-difference.ensures.circuit (λ v g. g) (λ v g h. h.1)
    (λ w m t. below_by_carry w left right bits carry c.in_ok-difference.ensures.width (m t)))

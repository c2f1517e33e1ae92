use Rattle.std.proofs.Common.{◌≡◌, List, cond, length, take, refl, subst}
use Rattle.clause_store.specs.declared.lit.Lit.{Lit}
use Rattle.clause_store.specs.Literals.{literal_value}
use Rattle.bit_clauses.specs.Circuit.{IsCircuit, Decides, DecidesAll}
use Rattle.bit_clauses.specs.Spelled.{spelled}
use Rattle.bit_clauses.proofs.Products.{row_circuit}
use Rattle.bit_clauses.proofs.product.row.Goals as goal

pub returns-clause-circuit : goal.returns-clause-circuit
returns-clause-circuit c =
    let sum = c.in_ok-sum.sum.bits in
    let chosen = subst (λ (l : List Lit). IsCircuit c.add.new.clauses c.select.new.clauses (λ v. Decides v c.args.digit × DecidesAll v l × DecidesAll v c.args.high.now) (λ v. DecidesAll v c.in_ok-chosen.chosen)
    (λ w. spelled w c.in_ok-chosen.chosen ≡ cond (literal_value w c.args.digit) (spelled w l) (spelled w c.args.high.now)))
    c.as_slice.ensures c.in_ok-chosen.ensures.circuit in
    row_circuit c.args.clauses.now c.add.new.clauses c.select.new.clauses c.args.left.now c.args.high.now (take (length c.args.high.now) c.args.left.now) sum c.in_ok-chosen.chosen c.in_ok-sum.sum.carry c.args.digit c.args.no
    refl c.requires.room c.in_ok-sum.ensures.width c.in_ok-sum.ensures.circuit chosen

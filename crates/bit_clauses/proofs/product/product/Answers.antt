use Rattle.std.proofs.Common.{◌≡◌, ◌+◌, ◌*◌, ◌%◌, ◌^◌, ◌∙◌, List, false, length, get_or, refl, ap, subst, sym}
use Rattle.clause_store.specs.declared.lit.Lit.{Lit}
use Rattle.clause_store.specs.Literals.{literal_value}
use Rattle.bit_clauses.specs.Circuit.{IsCircuit, Decides, DecidesAll}
use Rattle.bit_clauses.specs.Spelled.{bit, spelled}
use Rattle.bit_clauses.proofs.Products.{IsMultiplied, multiplied-none, multiplied-more, multiplied-all}
use Rattle.bit_clauses.proofs.product.product.Goals as goal

pub loop-digit-init : goal.loop-digit-init
loop-digit-init c = subst (λ (l : List Lit). IsMultiplied c.args.clauses.now c.args.clauses.now c.args.left.now c.args.right.now l c.in_ok-high.high c.args.no 0) (sym c.new-low.ensures)
    (multiplied-none c.args.clauses.now c.args.left.now c.args.right.now c.in_ok-high.high c.args.no c.in_ok-high.ensures c.requires.left_known c.requires.right_known c.requires.no_known)

pub loop-digit-preserved : goal.loop-digit-preserved
loop-digit-preserved c =
    let d : Lit = record { var = 0; positive = false } in
    let i = c.loop-digit.digit-index in
    let digit = get_or c.args.right.now i d in
    let sum = c.in_ok-sum.sum in
    let step = subst (λ (l : List Lit). IsCircuit c.loop-digit.clauses c.row.new.clauses (λ v. DecidesAll v c.args.left.now × Decides v digit × DecidesAll v l × Decides v c.args.no) (λ v. DecidesAll v sum)
    (λ w. literal_value w c.args.no ≡ false → spelled w sum ≡ (spelled w l + spelled w c.args.left.now * bit w digit) % 2 ^ length l))
    c.as_slice.ensures c.in_ok-sum.ensures.circuit in
    multiplied-more c.args.clauses.now c.loop-digit.clauses c.row.new.clauses c.args.left.now c.args.right.now c.loop-digit.low c.loop-digit.high sum c.push.new.self c.in_ok-high-2.high
    c.args.no digit c.bit.result i d c.loop-digit-test.true c.requires.same_width c.loop-digit.invariant refl step
    (c.in_ok-sum.ensures.width ∙ ap (λ (l : List Lit). length l) c.as_slice.ensures) c.in_ok-sum.ensures.known (c.bit.ensures d) c.in_ok-push.ensures c.in_ok-high-2.ensures

pub returns-clause-circuit : goal.returns-clause-circuit
returns-clause-circuit c = multiplied-all c.args.clauses.now c.loop-digit.clauses c.args.left.now c.args.right.now c.loop-digit.low c.loop-digit.high c.args.no c.loop-digit.digit-index c.loop-digit-test.false c.requires.same_width c.loop-digit.invariant

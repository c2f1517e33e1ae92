use Rattle.std.proofs.Common.{◌≡◌, ◌+◌, ◌-◌, ◌*◌, ◌^◌, ◌∙◌, List, true, false, length, get_or, ap, subst, sym, arith}
use Rattle.std.specs.Prelude.{replicate}
use Rattle.clause_store.specs.declared.lit.Lit.{Lit}
use Rattle.clause_store.specs.Literals.{literal_value}
use Rattle.bit_clauses.specs.Circuit.{IsCircuit, Decides, DecidesAll}
use Rattle.bit_clauses.specs.Division.{IsDigit}
use Rattle.bit_clauses.specs.Spelled.{bit, spelled}
use Rattle.bit_clauses.proofs.Divisions.{IsDivided, divided-none, divided-more, divided-all}
use Rattle.bit_clauses.proofs.division.divide.Goals as goal

pub loop-i-init : goal.loop-i-init
loop-i-init c = subst (λ (l : List Lit). IsDivided c.args.clauses.now c.args.clauses.now c.args.left.now c.args.right.now l c.in_ok-rest.rest c.args.yes 0) (sym c.new-quotient.ensures)
    (divided-none c.args.clauses.now c.args.left.now c.args.right.now c.in_ok-rest.rest c.args.yes (c.in_ok-rest.ensures ∙ ap (λ (o : Lit). replicate (length c.args.right.now) o) c.opposite.ensures)
    c.requires.left_known c.requires.right_known c.requires.yes_known)

pub loop-i-preserved : goal.loop-i-preserved
loop-i-preserved c =
    let d : Lit = record { var = 0; positive = false } in
    let i = c.loop-i.i in
    let at = length c.args.left.now - 1 - i in
    let place : at + (i + 1) ≡ length c.args.left.now = omega (arith, c.loop-i-test.true) in
    let next = c.in_ok-next.next in
    let step = subst (λ (l : List Lit). IsCircuit c.loop-i.clauses c.next_digit.new.clauses (λ v. Decides v (get_or c.args.left.now at d) × DecidesAll v l × DecidesAll v c.args.right.now × Decides v c.args.yes) (λ v. Decides v next.quotient × DecidesAll v next.rest)
    (λ w. literal_value w c.args.yes ≡ true → IsDigit (bit w (get_or c.args.left.now at d) + 2 * spelled w l) (spelled w c.args.right.now) (2 ^ length c.args.right.now) (literal_value w next.quotient) (spelled w next.rest)))
    c.as_slice.ensures c.in_ok-next.ensures.circuit in
    divided-more c.args.clauses.now c.loop-i.clauses c.next_digit.new.clauses c.args.left.now c.args.right.now c.loop-i.quotient c.loop-i.rest c.push_lowest.new.self next.rest c.args.yes next.quotient i at d
    place c.requires.same_width c.loop-i.invariant step c.in_ok-next.ensures.quotient_known c.in_ok-next.ensures.rest_known c.in_ok-next.ensures.width c.in_ok-push_lowest.ensures

pub returns-clause-circuit : goal.returns-clause-circuit
returns-clause-circuit c =
    let done : c.loop-i.i ≡ length c.args.left.now = omega arith in
    divided-all c.args.clauses.now c.loop-i.clauses c.args.left.now c.args.right.now c.loop-i.quotient c.loop-i.rest c.args.yes c.loop-i.i done c.loop-i.invariant

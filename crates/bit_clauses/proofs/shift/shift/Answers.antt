use Rattle.std.proofs.Common.{◌≡◌, ◌∙◌, List, false, cond, length, get_or, ap, subst}
use Rattle.clause_store.specs.declared.lit.Lit.{Lit}
use Rattle.clause_store.specs.Literals.{literal_value}
use Rattle.bit_clauses.specs.Circuit.{IsCircuit, Decides, DecidesAll}
use Rattle.bit_clauses.specs.Shift.{moved_list}
use Rattle.bit_clauses.specs.Spelled.{spelled}
use Rattle.bit_clauses.proofs.Shifts.{shifted-none, shifted-more, shifted-all}
use Rattle.bit_clauses.proofs.shift.shift.Goals as goal

pub loop-i-init : goal.loop-i-init
loop-i-init c = shifted-none c.args.clauses.now c.args.way c.args.lits.now c.args.amount.now c.in_ok-current.current c.args.no c.in_ok-current.ensures c.requires.lits_known c.requires.amount_known c.requires.no_known

pub loop-i-preserved : goal.loop-i-preserved
loop-i-preserved c =
    let d : Lit = record { var = 0; positive = false } in
    let i = c.loop-i.i in
    let after = c.in_ok-current-2.current in
    let further = c.in_ok-further.further in
    let digit = get_or c.args.amount.now i d in
    let moved : further ≡ moved_list c.args.way c.distance-by.result c.loop-i.current c.args.no =
    c.in_ok-further.ensures ∙ ap (λ (l : List Lit). moved_list c.args.way c.distance-by.result l c.args.no) c.as_slice.ensures in
    let one = subst (λ (l : List Lit). IsCircuit c.loop-i.clauses c.select.new.clauses (λ v. Decides v digit × DecidesAll v l × DecidesAll v c.as_slice-in-loop-i-2.result.now) (λ v. DecidesAll v after)
    (λ w. spelled w after ≡ cond (literal_value w digit) (spelled w l) (spelled w c.as_slice-in-loop-i-2.result.now))) c.as_slice-in-loop-i.ensures c.in_ok-current-2.ensures.circuit in
    let two = subst (λ (l : List Lit). IsCircuit c.loop-i.clauses c.select.new.clauses (λ v. Decides v digit × DecidesAll v further × DecidesAll v l) (λ v. DecidesAll v after)
    (λ w. spelled w after ≡ cond (literal_value w digit) (spelled w further) (spelled w l))) c.as_slice-in-loop-i-2.ensures one in
    shifted-more c.args.clauses.now c.loop-i.clauses c.select.new.clauses c.args.way c.args.lits.now c.args.amount.now c.loop-i.current further after c.args.no i c.distance-by.result d
    c.loop-i-test.true c.loop-i.invariant (record { within = c.distance-by.ensures.within; near = c.distance-by.ensures.near; far = c.distance-by.ensures.far }) moved two
    (c.in_ok-current-2.ensures.width ∙ ap (λ (l : List Lit). length l) c.as_slice-in-loop-i.ensures) c.in_ok-current-2.ensures.known

pub returns-clause-circuit : goal.returns-clause-circuit
returns-clause-circuit c = shifted-all c.args.clauses.now c.loop-i.clauses c.args.way c.args.lits.now c.args.amount.now c.loop-i.current c.args.no c.loop-i.i c.loop-i-test.false c.loop-i.invariant

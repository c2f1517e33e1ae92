use Rattle.std.proofs.Common.{◌≡◌, ◌+◌, ◌-◌, ◌/◌, ◌^◌, ◌∙◌, List, false, cond, length, get_or, ap, subst, arith}
use Rattle.clause_store.specs.declared.lit.Lit.{Lit}
use Rattle.clause_store.specs.Literals.{literal_value}
use Rattle.bit_clauses.specs.Circuit.{IsCircuit, Decides, DecidesAll}
use Rattle.bit_clauses.specs.Spelled.{spelled}
use Rattle.bit_clauses.proofs.Shifts.{signed_circuit}
use Rattle.bit_clauses.proofs.shift.shift_signed.Goals as goal

pub returns-clause-circuit : goal.returns-clause-circuit
returns-clause-circuit c =
    let d : Lit = record { var = 0; positive = false } in
    let top = length c.args.lits.now - 1 in
    let last : top + 1 ≡ length c.args.lits.now = omega (arith, c.requires.some_bit) in
    let turned = c.in_ok-turned.turned in
    let shifted = c.in_ok-shifted.shifted in
    let out = c.in_ok-out.out in
    let sign = get_or c.args.lits.now top d in
    let two = subst (λ (l : List Lit). IsCircuit c.magnitude.new.clauses c.shift.new.clauses (λ v. DecidesAll v l × DecidesAll v c.args.amount.now × Decides v c.args.no) (λ v. DecidesAll v shifted)
    (λ w. literal_value w c.args.no ≡ false → spelled w shifted ≡ spelled w l / 2 ^ spelled w c.args.amount.now)) c.as_slice.ensures c.in_ok-shifted.ensures.circuit in
    let three = subst (λ (l : List Lit). IsCircuit c.shift.new.clauses c.magnitude-2.new.clauses (λ v. Decides v sign × DecidesAll v l) (λ v. DecidesAll v out)
    (λ w. spelled w out ≡ cond (literal_value w sign) (2 ^ length l - 1 - spelled w l) (spelled w l))) c.as_slice-2.ensures c.in_ok-out.ensures.circuit in
    signed_circuit c.args.clauses.now c.magnitude.new.clauses c.shift.new.clauses c.magnitude-2.new.clauses c.args.lits.now c.args.amount.now turned shifted out c.args.no top d last
    c.in_ok-turned.ensures.width (c.in_ok-shifted.ensures.width ∙ ap (λ (l : List Lit). length l) c.as_slice.ensures ∙ c.in_ok-turned.ensures.width) c.in_ok-turned.ensures.circuit two three

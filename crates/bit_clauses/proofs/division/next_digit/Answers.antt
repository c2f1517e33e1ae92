use Rattle.std.proofs.Common.{◌∙◌, ◌≡◌, ◌+◌, ◌++◌, ◌∷◌, [], List, cond, length, ap, subst, sym, arith}
use Rattle.clause_store.specs.declared.lit.Lit.{Lit}
use Rattle.clause_store.specs.Literals.{literal_value}
use Rattle.bit_clauses.specs.Circuit.{IsCircuit, Decides, DecidesAll}
use Rattle.bit_clauses.specs.Spelled.{spelled}
use Rattle.bit_clauses.proofs.Divisions.{digit_circuit}
use Rattle.bit_clauses.proofs.division.next_digit.Goals as goal

pub returns-clause-circuit : goal.returns-clause-circuit
returns-clause-circuit c =
    let sum = c.in_ok-difference.difference.bits in
    let carry = c.in_ok-difference.difference.carry in
    let taken = c.as_slice.result.now in
    let left = c.in_ok-left.left in
    let divisor = c.args.divisor.now in
    let taken_is : taken ≡ c.args.digit ∷ c.args.rest.now = c.as_slice.ensures ∙ c.in_ok-push_lowest.ensures ∙ ap (λ (l : List Lit). c.args.digit ∷ l) c.in_ok-taken.ensures in
    let wide_is = c.as_slice-2.ensures ∙ c.in_ok-push.ensures ∙ ap (λ (l : List Lit). l ++ c.opposite.result ∷ []) c.in_ok-wide.ensures ∙ ap (λ (o : Lit). divisor ++ o ∷ []) c.opposite.ensures in
    let again : c.as_slice-4.result.now ≡ taken = c.as_slice-4.ensures ∙ sym c.as_slice.ensures in
    let one = subst (λ (l : List Lit). IsCircuit c.subtract.new.clauses c.select.new.clauses (λ v. Decides v carry × DecidesAll v l × DecidesAll v c.as_slice-4.result.now) (λ v. DecidesAll v left)
    (λ w. spelled w left ≡ cond (literal_value w carry) (spelled w l) (spelled w c.as_slice-4.result.now))) c.as_slice-3.ensures c.in_ok-left.ensures.circuit in
    let two = subst (λ (l : List Lit). IsCircuit c.subtract.new.clauses c.select.new.clauses (λ v. Decides v carry × DecidesAll v sum × DecidesAll v l) (λ v. DecidesAll v left)
    (λ w. spelled w left ≡ cond (literal_value w carry) (spelled w sum) (spelled w l))) again one in
    let count : length sum ≡ length taken = c.in_ok-difference.ensures.width in
    let more : length taken ≡ length c.args.rest.now + 1 = ap (λ (l : List Lit). length l) taken_is ∙ omega arith in
    let left_count : length left ≡ length divisor + 1 = c.in_ok-left.ensures.width ∙ ap (λ (l : List Lit). length l) c.as_slice-3.ensures ∙ omega (arith, count, more, c.requires.same_width) in
    digit_circuit c.args.clauses.now c.subtract.new.clauses c.select.new.clauses c.args.digit c.args.rest.now divisor taken c.as_slice-2.result.now sum left c.in_ok-rest.rest carry c.args.yes
    taken_is wide_is c.in_ok-rest.ensures count left_count c.in_ok-difference.ensures.circuit two

use Rattle.std.proofs.Common.{◌≡◌, ◌∙◌, List, cond, nat_eq, length, ap, subst, sym}
use Rattle.std.specs.Prelude.{All}
use Rattle.std.proofs.lemmas.Bool.{false≢true}
use Rattle.clause_store.specs.declared.lit.Lit.{Lit}
use Rattle.bit_clauses.specs.Circuit.{DecidesAll}
use Rattle.bit_clauses.specs.Operation.{Spells}
use Rattle.bit_clauses.specs.Spelled.{spelled}
use Rattle.bit_clauses.proofs.Tables.{entry_none, entry_one}
use Rattle.bit_clauses.proofs.byte_select.entry.Goals as goal

pub returns-then-not-has_digits-clause-spells : goal.returns-then-not-has_digits-clause-spells
returns-then-not-has_digits-clause-spells c =
    let f = c.args.clauses.now in
    let index = c.args.index.now in
    let other = c.args.other.now in
    subst (λ (l : List Lit). Spells f f (λ v. DecidesAll v index × DecidesAll v other) c.args.yes 8 (λ w. cond (nat_eq (spelled w index) c.args.place) c.args.byte (spelled w other)) l)
    (sym c.in_ok-out.ensures)
    (entry_none f index other c.args.yes c.args.place c.args.byte c.requires.eight c.requires.other_known (λ h. false≢true (c.if-not-has_digits.ensures.1 h)))

pub returns-clause-spells : goal.returns-clause-spells
returns-clause-spells c =
    let wanted = c.as_slice.result.now in
    let bits = c.as_slice-2.result.now in
    entry_one c.args.clauses.now c.equal.new.clauses c.select.new.clauses c.args.index.now c.args.other.now wanted bits c.in_ok-out-2.out c.args.yes c.in_ok-here.here c.args.place c.args.byte
    (subst (λ (x : List Lit). All (λ (l : Lit). l.var ≡ c.args.yes.var) x) (sym c.as_slice.ensures) c.in_ok-wanted.ensures.same_variable)
    (λ w t. ap (spelled w) c.as_slice.ensures ∙ c.in_ok-wanted.ensures.value w t)
    (subst (λ (x : List Lit). All (λ (l : Lit). l.var ≡ c.args.yes.var) x) (sym c.as_slice-2.ensures) c.in_ok-bits.ensures.same_variable)
    (λ w t. ap (spelled w) c.as_slice-2.ensures ∙ c.in_ok-bits.ensures.value w t)
    c.in_ok-here.ensures.circuit c.in_ok-out-2.ensures.circuit
    (c.in_ok-out-2.ensures.width ∙ ap (λ (l : List Lit). length l) c.as_slice-2.ensures ∙ c.in_ok-bits.ensures.width) c.in_ok-out-2.ensures.known

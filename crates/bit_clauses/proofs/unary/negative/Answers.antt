use Rattle.std.proofs.Common.{◌≡◌, ◌+◌, ◌*◌, ◌^◌, ◌<◌, ◌∙◌, List, true, length, ap, subst, sym}
use Rattle.std.proofs.lemmas.List.{length-replicate}
use Rattle.std.proofs.lemmas.List.Elements.{All-replicate}
use Rattle.bv_terms.specs.BitVectors.{neg_value}
use Rattle.clause_store.specs.declared.lit.Lit.{Lit}
use Rattle.clause_store.specs.Literals.{literal_value}
use Rattle.clause_store.specs.Formula.{IsKnown}
use Rattle.bit_clauses.specs.Circuit.{Decides, DecidesAll}
use Rattle.bit_clauses.specs.Operation.{vector}
use Rattle.bit_clauses.specs.Spelled.{bit, spelled}
use Rattle.bit_clauses.proofs.Numbers.{spelled_small}
use Rattle.bit_clauses.proofs.Operations.{spells, nil_false, nil_known, nil_decided, negative_same}
use Rattle.bit_clauses.proofs.Products.{spelled-replicate}
use Rattle.bit_clauses.proofs.unary.negative.Goals as goal

pub subtract-requires-clause-left_known : goal.subtract-requires-clause-left_known
subtract-requires-clause-left_known c =
    subst (IsKnown c.args.clauses.now.vars) (sym (c.as_slice.ensures ∙ c.in_ok-zeros.ensures))
    (All-replicate (λ (l : Lit). l.var < c.args.clauses.now.vars) (length c.args.lits.now) c.opposite-no.result (nil_known c.args.clauses.now.vars c.args.yes c.opposite-no.result c.opposite-no.ensures c.requires.yes_known))

pub subtract-requires-clause-same_width : goal.subtract-requires-clause-same_width
subtract-requires-clause-same_width c = ap (λ (l : List Lit). length l) (c.as_slice.ensures ∙ c.in_ok-zeros.ensures) ∙ length-replicate (length c.args.lits.now) c.opposite-no.result

pub returns-clause-spells : goal.returns-clause-spells
returns-clause-spells c =
    let lits = c.args.lits.now in
    let nil = c.opposite-no.result in
    let zeros = c.as_slice.result.now in
    let bits = c.in_ok-difference.difference.bits in
    let carry = c.in_ok-difference.difference.carry in
    let e = c.as_slice.ensures ∙ c.in_ok-zeros.ensures in
    let same : length zeros ≡ length lits = ap (λ (l : List Lit). length l) e ∙ length-replicate (length lits) nil in
    let count : length bits ≡ length lits = c.in_ok-difference.ensures.width ∙ same in
    spells c.args.clauses.now c.subtract.new.clauses (λ v. DecidesAll v lits) (λ v. DecidesAll v zeros × DecidesAll v lits × Decides v c.args.yes) (λ v. DecidesAll v bits × Decides v carry)
    (λ w. literal_value w c.args.yes ≡ true → spelled w bits + 2 ^ length zeros * bit w carry + spelled w lits ≡ spelled w zeros + 2 ^ length zeros)
    c.args.yes (length lits) (λ w. neg_value (vector w lits)) bits count c.in_ok-difference.ensures.bits_known c.in_ok-difference.ensures.circuit
    (λ v g d. (subst (DecidesAll v) (sym e) (All-replicate (Decides v) (length lits) nil (nil_decided v c.args.yes nil c.opposite-no.ensures d)), g, d))
    (λ v h. h.0)
    (λ w t m.
    negative_same (spelled w bits) (2 ^ length lits) (bit w carry) (spelled w lits)
    (subst (λ n. spelled w bits + 2 ^ n * bit w carry + spelled w lits ≡ spelled w zeros + 2 ^ n) same (m t)
    ∙ ap (λ n. n + 2 ^ length lits) (ap (spelled w) e ∙ spelled-replicate w (length lits) nil (nil_false w c.args.yes nil c.opposite-no.ensures t)))
    (subst (λ n. spelled w bits < 2 ^ n) count (spelled_small w bits)) (spelled_small w lits))

use Rattle.std.proofs.Common.{◌≡◌, ◌<◌, ◌∙◌, false, cond, length, get_or, nat_eq, ap, sym, arith}
use Rattle.std.proofs.lemmas.List.Elements.{All-get_or}
use Rattle.clause_store.specs.declared.lit.Lit.{Lit}
use Rattle.clause_store.specs.Literals.{literal_value}
use Rattle.bit_clauses.specs.Circuit.{Decides, DecidesAll}
use Rattle.bit_clauses.specs.Spelled.{spelled}
use Rattle.bit_clauses.proofs.Operations.{spells}
use Rattle.bit_clauses.proofs.Wires.{one_bit, is_one}
use Rattle.bit_clauses.proofs.unary.choice.Goals as goal

pub returns-clause-spells : goal.returns-clause-spells
returns-clause-spells c =
    let d : Lit = record { var = 0; positive = false } in
    let when = c.args.when.now in
    let first = c.args.first.now in
    let second = c.args.second.now in
    let test = get_or when 0 d in
    let within : 0 < length when = omega (arith, c.requires.one_bit) in
    spells c.args.clauses.now c.select.new.clauses (λ v. DecidesAll v when × DecidesAll v first × DecidesAll v second) (λ v. Decides v test × DecidesAll v first × DecidesAll v second)
    (λ v. DecidesAll v c.in_ok-out.out) (λ w. spelled w c.in_ok-out.out ≡ cond (literal_value w test) (spelled w first) (spelled w second))
    c.args.yes (length first) (λ w. cond (nat_eq (spelled w when) 1) (spelled w first) (spelled w second)) c.in_ok-out.out
    c.in_ok-out.ensures.width c.in_ok-out.ensures.known c.in_ok-out.ensures.circuit
    (λ v g s. (All-get_or (Decides v) when 0 d within g.0, g.1, g.2)) (λ v h. h)
    (λ w t m. m ∙ ap (λ b. cond b (spelled w first) (spelled w second)) (sym (ap (λ n. nat_eq n 1) (one_bit w when d c.requires.one_bit) ∙ is_one (literal_value w test))))

use Rattle.std.proofs.Common.{eqb, [], ◌∷◌, Some}
use Rattle.std.proofs.lemmas.Bool.Decides.{Decides-eqb}
use Rattle.std.proofs.lemmas.Slice.Eq.{strip_prefix_is}
use Rattle.cert_text.proofs.Literals.{none_from, positive_only, negative_only}
use Rattle.cert_text.proofs.literal.read_literal.Goals as goal

pub returns-in_err-number-clause-none : goal.returns-in_err-number-clause-none
returns-in_err-number-clause-none c = none_from c.from_residual.result _ (λ l is e.
    let split = strip_prefix_is {E = eqb} Decides-eqb c.args.word.now (120 ∷ []) (Some c.in-Some.number) c.in-Some.ensures.cases in
    let d = positive_only l c.args.word.now c.in-Some.number.now is split e in
    c.in_err-number.ensures.none d.number d.some d.few d.is)

pub returns-in_err-number-2-clause-none : goal.returns-in_err-number-2-clause-none
returns-in_err-number-2-clause-none c = none_from c.from_residual-in_err-number-2.result _ (λ l is e.
    let split = strip_prefix_is {E = eqb} Decides-eqb c.args.word.now (45 ∷ 120 ∷ []) (Some c.in-Some-strip_prefix.number) c.in-Some-strip_prefix.ensures.cases in
    let d = negative_only l c.args.word.now c.in-Some-strip_prefix.number.now is split e in
    c.in_err-number-2.ensures.none d.number d.some d.few d.is)

use Rattle.std.proofs.Common.{◌∙◌, sym, arith}
use Rattle.std.proofs.lemmas.Fmt.{decimal_injective}
use Rattle.cert_text.proofs.literal.read_variable.Goals as goal

pub returns-then-number-eq0-clause-none : goal.returns-then-number-eq0-clause-none
returns-then-number-eq0-clause-none c = λ n some few e.
    let same = decimal_injective c.in_ok-number.number n (omega (arith, c.in_ok-number.ensures.said.0)) (omega arith) (sym c.in_ok-number.ensures.said.1 ∙ e) in
    omega (arith, c.if-number-eq0.true)

use Rattle.std.proofs.Common.{◌∙◌, false, sym, subst}
use Rattle.std.specs.Bool.{IsTrue}
use Rattle.cert_text.specs.Grammar.{IsAfter}
use Rattle.cert_text.specs.TextLaws.{one_literal}
use Rattle.cert_text.proofs.line.next_literal.Goals as goal

never : IsTrue false → ⊥
never e = cc

pub returns-then-not-stands_after-clause-none : goal.returns-then-not-stands_after-clause-none
returns-then-not-stands_after-clause-none c = λ l may e.
    let same = one_literal l c.in_ok-literal.literal may.is c.in_ok-literal.ensures.said.0 (sym e ∙ c.in_ok-literal.ensures.said.1) in
    never (c.if-not-stands_after.ensures.1 (subst (IsAfter c.args.last) same may.after))

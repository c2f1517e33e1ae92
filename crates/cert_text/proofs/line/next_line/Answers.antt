use Rattle.std.proofs.Common.{◌≡◌, ◌∙◌, List, sym}
use Rattle.sched_text.specs.LineLaws.{one_split, not_free}
use Rattle.cert_text.specs.declared.cert.CertLit.{CertLit}
use Rattle.cert_text.specs.Grammar.{IsFullLine}
use Rattle.cert_text.specs.Text.{words_of}
use Rattle.cert_text.specs.TextLaws.{line_free}
use Rattle.cert_text.proofs.Literals.{from_none}
use Rattle.cert_text.proofs.line.next_line.Goals as goal

pub returns-in_default-clause-none : goal.returns-in_default-clause-none
returns-in_default-clause-none c = λ line after is e. not_free 10 c.args.rest.now (words_of line) after c.in_default.ensures.none e

pub returns-in_default-2-clause-none : goal.returns-in_default-2-clause-none
returns-in_default-2-clause-none c = λ line after is e.
    let parts = one_split 10 c.in-Some.words.now (words_of line) c.in-Some.after.now after c.in-Some.ensures.first (line_free line is) (sym c.in-Some.ensures.parts ∙ e) in
    let none : (l : List CertLit) → IsFullLine l → c.in-Some.words.now ≡ words_of l → ⊥ = from_none c.in_ok-line.field-0 _ c.in_default-2.is c.in_ok-line.ensures.none in
    none line is parts.0

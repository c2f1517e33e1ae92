use Rattle.std.proofs.Common.{◌≡◌, ◌+◌, ◌<◌, List, ◌∷◌, ◌++◌, length, Some, None, ap, sym, subst, arith, length-append}
use Rattle.cert_text.specs.declared.cert.CertLit.{CertLit}
use Rattle.cert_text.specs.Grammar.{IsFullLine}
use Rattle.cert_text.specs.Text.{words_of}
use Rattle.cert_text.proofs.Words.{IsBegun, nothing_begun, one_more, last_one, no_word, no_last_word}
use Rattle.cert_text.proofs.line.read_words.Goals as goal

pub loop-word-init : goal.loop-word-init
loop-word-init c =
    let P : List CertLit → Type 0 = λ line. IsBegun c.args.words.now line None c.args.words.now in
    record { begun = subst P (sym c.new-line.ensures) (nothing_begun c.args.words.now) }

pub returns-in_default-next_literal-clause-none : goal.returns-in_default-next_literal-clause-none
returns-in_default-next_literal-clause-none c = λ longer is e.
    no_word c.args.words.now c.loop-word.rest.now c.in-Some.word.now c.in-Some.after.now c.loop-word.line longer c.loop-word.last c.loop-word.invariant.begun
    c.in-Some.ensures.parts c.in-Some.ensures.first c.in_default-next_literal.ensures.none is e

pub loop-word-smaller : goal.loop-word-smaller
loop-word-smaller c =
    let whole = ap length c.in-Some.ensures.parts in
    omega (arith, length-append c.in-Some.word.now (32 ∷ c.in-Some.after.now))

pub loop-word-preserved : goal.loop-word-preserved
loop-word-preserved c =
    let P : List CertLit → Type 0 = λ line. IsBegun c.args.words.now line (Some c.in-Some-next_literal.literal) c.in-Some.after.now in
    record {
      begun = subst P (sym c.in_ok-push.ensures) (one_more c.args.words.now c.loop-word.rest.now c.in-Some.word.now c.in-Some.after.now c.loop-word.line c.loop-word.last c.in-Some-next_literal.literal
          c.loop-word.invariant.begun c.in-Some.ensures.parts c.in-Some-next_literal.ensures.said.0 c.in-Some-next_literal.ensures.said.1);
    }

pub returns-in_default-next_literal-2-clause-none : goal.returns-in_default-next_literal-2-clause-none
returns-in_default-next_literal-2-clause-none c = λ longer is e.
    no_last_word c.args.words.now c.loop-word.rest.now c.loop-word.line longer c.loop-word.last c.loop-word.invariant.begun
    c.in_default.ensures.none c.in_default-next_literal-2.ensures.none is e

pub returns-clause-line : goal.returns-clause-line
returns-clause-line c =
    let P : List CertLit → Type 0 = λ line. IsFullLine line × (c.args.words.now ≡ words_of line) in
    subst P (sym c.in_ok-push-2.ensures) (last_one c.args.words.now c.loop-word.rest.now c.loop-word.line c.loop-word.last c.in-Some-next_literal-2.literal
    c.loop-word.invariant.begun c.in-Some-next_literal-2.ensures.said.0 c.in-Some-next_literal-2.ensures.said.1)

use Rattle.std.proofs.Common.{◌≡◌, ◌≢◌, ℕ, ◌+◌, List, ◌∷◌, ◌++◌, Bool, true, false, length, inl, inr, ◌∙◌, sym, arith}
use Rattle.std.proofs.lemmas.Bool.{eqb-true, eqb-false}
use Rattle.cert_text.specs.declared.cert.CertLit.{CertLit}
use Rattle.cert_text.specs.FirstBad.{IsFirstBad}
use Rattle.cert_text.specs.FirstBadLaws.{no_bad_line}
use Rattle.cert_text.specs.Grammar.{IsFullLine}
use Rattle.cert_text.specs.Reading.{begins_full}
use Rattle.cert_text.specs.Text.{words_of}
use Rattle.cert_text.proofs.Literals.{from_none}
use Rattle.cert_text.proofs.ReadLines.{bad_mark, bad_next, part_ends, whole_ends, bad_finish, bad_more}
use Rattle.cert_text.proofs.read.read_cert.Goals as goal
use Rattle.cert_text.proofs.read.read_cert.Goals.{else-not-whole-via-then-not-whole+else-is_empty, else-not-whole-via-else-not-whole, then-not-whole-2-via-then-not-whole-2, then-not-whole-2-via-else-not-whole-2+then-is_empty-2}

pub returns-in_default-clause-first_bad : goal.returns-in_default-clause-first_bad
returns-in_default-clause-first_bad c = bad_mark c.args.bytes.now c.in_default.ensures.none

-- a line that is none
no_next : (c : goal.After-drop-lines-inside-in_default-2) → IsFirstBad c.args.bytes.now c.loop-rest.line
no_next c =
    let none : (l : List CertLit) (after : List ℕ) → IsFullLine l → c.loop-rest.rest.now ≡ words_of l ++ 10 ∷ after → ⊥ = from_none c.in_ok-literals.field-0 _ c.in_default-2.is c.in_ok-literals.ensures.none in
    bad_next c.args.bytes.now c.in-Some.whole c.loop-rest.lines c.loop-rest.line c.loop-rest.rest.now c.loop-rest.invariant.read (sym c.begins_full_line.ensures ∙ c.loop-rest-test.true) none

pub returns-in_default-2-clause-first_bad : goal.returns-in_default-2-clause-first_bad
returns-in_default-2-clause-first_bad c = no_next c

pub returns-in_default-2-clause-no_cert : goal.returns-in_default-2-clause-no_cert
returns-in_default-2-clause-no_cert c = inr (λ found. no_bad_line c.args.bytes.now found.0 c.loop-rest.line (no_next c) found.1)

pub returns-then-is_empty-clause-cert : goal.returns-then-is_empty-clause-cert
returns-then-is_empty-clause-cert c =
    part_ends c.args.bytes.now c.in-Some.whole c.loop-rest.lines c.loop-rest.line c.loop-rest.rest.now c.loop-rest.invariant.read c.if-not-whole.true
    (eqb-true (length c.loop-rest.rest.now) 0 (sym c.if-is_empty.ensures))

both : (whole : Bool) → whole ≡ true → whole ≡ false → ⊥
both true is not_so = cc
both false is not_so = cc

-- an end that the mark does not allow
no_end : (c : goal.After-drop-lines-inside-then-not-whole-2) → IsFirstBad c.args.bytes.now c.loop-rest.line
no_end c =
    let finish = bad_finish c.args.bytes.now c.in-Some.whole c.loop-rest.lines c.loop-rest.line c.loop-rest.rest.now c.loop-rest.invariant.read (sym c.begins_full_line.ensures ∙ c.loop-rest-test.false) in
    elim c.then-not-whole-2.branch [
      | then-not-whole-2-via-then-not-whole-2 w ↦ elim c.else-not-whole.branch [
        | else-not-whole-via-then-not-whole+else-is_empty u ↦ finish (inl (w.if-not-whole-2.true, eqb-false (length c.loop-rest.rest.now) 0 (sym u.if-is_empty.ensures)))
        | else-not-whole-via-else-not-whole u ↦ absurd (both c.in-Some.whole u.if-not-whole.false w.if-not-whole-2.true)
      ]
      | then-not-whole-2-via-else-not-whole-2+then-is_empty-2 w ↦ finish (inr (w.if-not-whole-2.false, eqb-true (length c.loop-rest.rest.now) 0 (sym w.if-is_empty-2.ensures)))
    ]

pub returns-then-not-whole-2-clause-first_bad : goal.returns-then-not-whole-2-clause-first_bad
returns-then-not-whole-2-clause-first_bad c = no_end c

pub returns-then-not-whole-2-clause-no_cert : goal.returns-then-not-whole-2-clause-no_cert
returns-then-not-whole-2-clause-no_cert c = inr (λ found. no_bad_line c.args.bytes.now found.0 c.loop-rest.line (no_end c) found.1)

-- bytes behind the empty line
too_long : (c : goal.After-drop-lines-inside-then-rest-gt1) → IsFirstBad c.args.bytes.now (c.loop-rest.line + 1)
too_long c =
    bad_more c.args.bytes.now c.in-Some.whole c.loop-rest.lines c.loop-rest.line c.loop-rest.rest.now c.loop-rest.invariant.read (sym c.begins_full_line.ensures ∙ c.loop-rest-test.false)
    c.if-not-whole-2.false c.if-rest-gt1.true

pub returns-then-rest-gt1-clause-first_bad : goal.returns-then-rest-gt1-clause-first_bad
returns-then-rest-gt1-clause-first_bad c = too_long c

pub returns-then-rest-gt1-clause-no_cert : goal.returns-then-rest-gt1-clause-no_cert
returns-then-rest-gt1-clause-no_cert c = inr (λ found. no_bad_line c.args.bytes.now found.0 (c.loop-rest.line + 1) (too_long c) found.1)

pub returns-clause-cert : goal.returns-clause-cert
returns-clause-cert c =
    whole_ends c.args.bytes.now c.in-Some.whole c.loop-rest.lines c.push-2.new.self c.loop-rest.line c.loop-rest.rest.now c.new.result c.loop-rest.invariant.read
    (sym c.begins_full_line.ensures ∙ c.loop-rest-test.false) c.if-not-whole-2.false (eqb-false (length c.loop-rest.rest.now) 0 (sym c.if-is_empty-2.ensures))
    (omega (arith, c.if-rest-gt1.false)) c.new.ensures c.in_ok-push-2.ensures

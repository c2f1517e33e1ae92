use Rattle.std.proofs.Common.{◌∙◌, sym, arith}
use Rattle.cert_text.specs.TextLaws.{fits, one_place}
use Rattle.cert_text.proofs.Literals.{none_from, pair_fields, no_pair}
use Rattle.cert_text.proofs.literal.read_before.Goals as goal

pub returns-in_err-first-clause-none : goal.returns-in_err-first-clause-none
returns-in_err-first-clause-none c = none_from c.from_residual.result _ (λ t i u j are e. no_pair t i u j c.args.word.now c.in_err-first.ensures.none e)

pub returns-in_err-first_thread-clause-none : goal.returns-in_err-first_thread-clause-none
returns-in_err-first_thread-clause-none c = none_from c.from_residual-in_err-first_thread.result _ (λ t i u j are e.
    let f = pair_fields t i u j c.args.word.now c.in_ok-first.first.now c.in_ok-first.second.now are c.in_ok-first.ensures.parts c.in_ok-first.ensures.first e in
    c.in_err-first_thread.ensures.none t i are.first_thread are.first_step f.0)

pub returns-in_err-second_thread-clause-none : goal.returns-in_err-second_thread-clause-none
returns-in_err-second_thread-clause-none c = none_from c.from_residual-in_err-second_thread.result _ (λ t i u j are e.
    let f = pair_fields t i u j c.args.word.now c.in_ok-first.first.now c.in_ok-first.second.now are c.in_ok-first.ensures.parts c.in_ok-first.ensures.first e in
    c.in_err-second_thread.ensures.none u j are.second_thread are.second_step f.1)

pub returns-then-first_thread-second_thread-clause-none : goal.returns-then-first_thread-second_thread-clause-none
returns-then-first_thread-second_thread-clause-none c = λ t i u j are e.
    let f = pair_fields t i u j c.args.word.now c.in_ok-first.first.now c.in_ok-first.second.now are c.in_ok-first.ensures.parts c.in_ok-first.ensures.first e in
    let g = fits t i u j are in
    let w = c.in_ok-first_thread.ensures.within in
    let v = c.in_ok-second_thread.ensures.within in
    let first = one_place c.in_ok-first_thread.first_thread c.in_ok-first_thread.first_step t i (omega arith) (omega arith) g.few_t g.few_i (sym c.in_ok-first_thread.ensures.place ∙ f.0) in
    let second = one_place c.in_ok-second_thread.second_thread c.in_ok-second_thread.second_step u j (omega arith) (omega arith) g.few_u g.few_j (sym c.in_ok-second_thread.ensures.place ∙ f.1) in
    are.differ (sym first.0 ∙ c.if-first_thread-second_thread.true ∙ second.0)

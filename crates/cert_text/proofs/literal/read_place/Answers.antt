use Rattle.std.proofs.Common.{arith}
use Rattle.cert_text.proofs.Literals.{none_from, place_fields, no_place}
use Rattle.cert_text.proofs.literal.read_place.Goals as goal

pub returns-in_err-thread-clause-none : goal.returns-in_err-thread-clause-none
returns-in_err-thread-clause-none c = none_from c.from_residual.result _ (λ t i few_t few_i e. no_place t i c.args.text.now c.in_err-thread.ensures.none e)

pub returns-in_err-thread-2-clause-none : goal.returns-in_err-thread-2-clause-none
returns-in_err-thread-2-clause-none c = none_from c.from_residual-in_err-thread-2.result _ (λ t i few_t few_i e.
    let f = place_fields t i c.args.text.now c.in_ok-thread.thread.now c.in_ok-thread.step.now few_t c.in_ok-thread.ensures.parts c.in_ok-thread.ensures.first e in
    c.in_err-thread-2.ensures.none t (omega arith) f.0)

pub returns-in_err-step-clause-none : goal.returns-in_err-step-clause-none
returns-in_err-step-clause-none c = none_from c.from_residual-in_err-step.result _ (λ t i few_t few_i e.
    let f = place_fields t i c.args.text.now c.in_ok-thread.thread.now c.in_ok-thread.step.now few_t c.in_ok-thread.ensures.parts c.in_ok-thread.ensures.first e in
    c.in_err-step.ensures.none i (omega arith) f.1)

use Rattle.std.proofs.Common.{Some, ap, sym, ◌∙◌, arith}
use Rattle.std.proofs.lemmas.Fmt.{decimal_injective}
use Rattle.sched_text.specs.LineLaws.{not_free}
use Rattle.sched_text.proofs.Splits.{none_from, option_same, fields, no_fields, count_field}
use Rattle.sched_text.proofs.line.next_run.Goals as goal
use Rattle.sched_text.proofs.line.next_run.Goals.{then-count-eq0-via-then-count-eq0, then-count-eq0-via-else-count-eq0+then-eq}

pub returns-in_err-thread-clause-none : goal.returns-in_err-thread-clause-none
returns-in_err-thread-clause-none c = none_from c.from_residual.result _ (λ run after may line. no_fields run c.args.rest.now after c.in_err-thread.ensures.none line)

pub returns-in_err-count-clause-none : goal.returns-in_err-count-clause-none
returns-in_err-count-clause-none c = none_from c.from_residual-in_err-count.result _ (λ run after may line.
    let f = fields run c.args.rest.now after c.in_ok-thread.thread.now c.in_ok-thread.after.now (let t = may.thread in omega arith) c.in_ok-thread.ensures.parts c.in_ok-thread.ensures.first line in
    not_free 10 c.in_ok-thread.after.now _ _ c.in_err-count.ensures.none f.rest)

pub returns-in_err-thread-2-clause-none : goal.returns-in_err-thread-2-clause-none
returns-in_err-thread-2-clause-none c = none_from c.from_residual-in_err-thread-2.result _ (λ run after may line.
    let f = fields run c.args.rest.now after c.in_ok-thread.thread.now c.in_ok-thread.after.now (let t = may.thread in omega arith) c.in_ok-thread.ensures.parts c.in_ok-thread.ensures.first line in
    c.in_err-thread-2.ensures.none run.thread (let t = may.thread in omega arith) f.thread)

pub returns-in_err-count-2-clause-none : goal.returns-in_err-count-2-clause-none
returns-in_err-count-2-clause-none c = none_from c.from_residual-in_err-count-2.result _ (λ run after may line.
    let f = fields run c.args.rest.now after c.in_ok-thread.thread.now c.in_ok-thread.after.now (let t = may.thread in omega arith) c.in_ok-thread.ensures.parts c.in_ok-thread.ensures.first line in
    let count = count_field run.count c.in_ok-thread.after.now after c.in_ok-count.count.now c.in_ok-count.after.now (let n = may.fits in omega (arith, c.ranges.room)) c.in_ok-count.ensures.parts c.in_ok-count.ensures.first f.rest in
    c.in_err-count-2.ensures.none run.count may.fits count)

pub returns-then-count-eq0-clause-none : goal.returns-then-count-eq0-clause-none
returns-then-count-eq0-clause-none c = λ run after may line.
    let f = fields run c.args.rest.now after c.in_ok-thread.thread.now c.in_ok-thread.after.now (let t = may.thread in omega arith) c.in_ok-thread.ensures.parts c.in_ok-thread.ensures.first line in
    let count = count_field run.count c.in_ok-thread.after.now after c.in_ok-count.count.now c.in_ok-count.after.now (let n = may.fits in omega (arith, c.ranges.room)) c.in_ok-count.ensures.parts c.in_ok-count.ensures.first f.rest in
    elim c.then-count-eq0.branch [
      | then-count-eq0-via-then-count-eq0 w ↦
          let same = decimal_injective c.in_ok-count-2.field-0 run.count (omega (arith, c.ranges.room, c.in_ok-count-2.ensures.said.0)) (let n = may.fits in omega (arith, c.ranges.room)) (sym c.in_ok-count-2.ensures.said.1 ∙ count) in
          let some = may.some in
          omega (arith, w.if-count-eq0.true)
      | then-count-eq0-via-else-count-eq0+then-eq w ↦
          let same = decimal_injective c.in_ok-thread-2.field-0 run.thread (omega (arith, c.in_ok-thread-2.ensures.said.0)) (let t = may.thread in omega arith) (sym c.in_ok-thread-2.ensures.said.1 ∙ f.thread) in
          may.other (option_same c.args.last c.in_ok-thread-2.field-0 w.if-eq.ensures ∙ ap Some same)
    ]

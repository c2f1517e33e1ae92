use Rattle.std.proofs.Common.{◌∙◌, arith}
use Rattle.sched_text.proofs.Numbers.{begins, zero_is_decimal, first_is, no_first}
use Rattle.sched_text.proofs.number.number_of.Goals as goal
use Rattle.sched_text.proofs.number.number_of.Goals.{else-first-eq48-via-then-first-eq48+else-text-eq1, else-first-eq48-via-else-first-eq48}

pub returns-in_default-clause-none : goal.returns-in_default-clause-none
returns-in_default-clause-none c = λ n below same.
    let b = begins c.args.text.now n (omega (arith, c.ranges.most)) same in
    let empty = no_first c.args.text.now c.in_default.ensures.value in
    omega arith

pub returns-then-text-eq1-clause-said : goal.returns-then-text-eq1-clause-said
returns-then-text-eq1-clause-said c =
    let first = first_is c.args.text.now c.in-Some.field-0.now c.in-Some.ensures.value in
    (omega arith, zero_is_decimal c.args.text.now (first ∙ c.if-first-eq48.true) c.if-text-eq1.true)

pub returns-else-first-eq48-clause-none : goal.returns-else-first-eq48-clause-none
returns-else-first-eq48-clause-none c = λ n below same.
    let b = begins c.args.text.now n (omega (arith, c.ranges.most)) same in
    let first = first_is c.args.text.now c.in-Some.field-0.now c.in-Some.ensures.value in
    let zero = b.zero (omega (arith, c.if-first-gt48.false)) in
    elim c.else-first-eq48.branch [ else-first-eq48-via-then-first-eq48+else-text-eq1 w ↦ omega (arith, w.if-text-eq1.false) | else-first-eq48-via-else-first-eq48 w ↦ omega (arith, w.if-first-eq48.false) ]

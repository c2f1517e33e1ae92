use Rattle.std.proofs.Common.{arith}
use Rattle.sched_text.proofs.Numbers.{ok_is_decimal, decimal_is_ok, decimal_not_err, decimal_is_text}
use Rattle.sched_text.proofs.number.parsed.Goals as goal

pub returns-in_default-clause-none : goal.returns-in_default-clause-none
returns-in_default-clause-none c = λ n below same. c.in_default.ensures.cases.0 (decimal_is_text c.args.text.now n (omega (arith, c.ranges.most)) same)

pub returns-in_default-parse-clause-none : goal.returns-in_default-parse-clause-none
returns-in_default-parse-clause-none c = λ n below same.
    decimal_not_err n c.in-Ok.digits.now c.args.text.now c.in-Ok.ensures.cases.0 (omega (arith, c.ranges.most)) same c.in_default-parse.ensures.value.0

pub returns-then-number-most-clause-said : goal.returns-then-number-most-clause-said
returns-then-number-most-clause-said c =
    (c.if-number-most.true, ok_is_decimal c.in-Ok-parse.number c.in-Ok.digits.now c.args.text.now c.in-Ok.ensures.cases.0 c.requires c.in-Ok-parse.ensures.value.0)

pub returns-else-number-most-clause-none : goal.returns-else-number-most-clause-none
returns-else-number-most-clause-none c = λ n below same.
    let is = decimal_is_ok c.in-Ok-parse.number n c.in-Ok.digits.now c.args.text.now c.in-Ok.ensures.cases.0 (omega (arith, c.ranges.most)) same c.in-Ok-parse.ensures.value.0 in
    omega (arith, c.if-number-most.false)

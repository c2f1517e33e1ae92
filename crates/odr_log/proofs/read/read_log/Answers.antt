use Rattle.std.proofs.Common.{◌<◌, ◌≤◌, arith}
use Rattle.odr_limits.specs.declared.TheConstants.{MOST_STEPS}
use Rattle.odr_log.specs.Grammar.{steps_of}
use Rattle.odr_log.specs.Faults.{FitsFile}
use Rattle.odr_log.proofs.Readers.{IsBytes}
use Rattle.odr_log.proofs.Whole.{whole-takes, whole-stuck}
use Rattle.odr_log.proofs.Replies.{log-answers, many-answers, bad-answers}
use Rattle.odr_log.proofs.read.read_log.Goals as goal

pub overflow_sub-offset : goal.overflow_sub-offset
overflow_sub-offset c =
    let fits : IsBytes c.args.bytes.now = λ i. omega (arith, c.type_inv.bytes i) in
    (whole-stuck c.args.bytes.now c.in-Err-Bad.left fits (rw c.in-Err-Bad.field-0-is at c.in-Err-Bad.ensures)).0

pub returns-in-Err-Bad : goal.returns-in-Err-Bad
returns-in-Err-Bad c =
    let fits : IsBytes c.args.bytes.now = λ i. omega (arith, c.type_inv.bytes i) in
    let small : FitsFile c.args.bytes.now = omega arith in
    let a = bad-answers c.args.bytes.now c.in-Err-Bad.left small fits (rw c.in-Err-Bad.field-0-is at c.in-Err-Bad.ensures) in
    record { ok = a.ok; too_large = a.too_large; no_log = a.no_log; bad = a.bad }

pub steps-requires : goal.steps-requires
steps-requires c =
    let fits : IsBytes c.args.bytes.now = λ i. omega (arith, c.type_inv.bytes i) in
    (whole-takes c.args.bytes.now c.in-Ok.log fits c.in-Ok.ensures).0.few_threads

pub returns-then-steps-gt-MOST_STEPS : goal.returns-then-steps-gt-MOST_STEPS
returns-then-steps-gt-MOST_STEPS c =
    let fits : IsBytes c.args.bytes.now = λ i. omega (arith, c.type_inv.bytes i) in
    let small : FitsFile c.args.bytes.now = omega arith in
    let many : MOST_STEPS < steps_of c.in-Ok.log = omega (arith, c.steps.ensures) in
    let a = many-answers c.args.bytes.now c.in-Ok.log small fits c.in-Ok.ensures many in
    record { ok = a.ok; too_large = a.too_large; no_log = a.no_log; bad = a.bad }

pub returns : goal.returns
returns c =
    let fits : IsBytes c.args.bytes.now = λ i. omega (arith, c.type_inv.bytes i) in
    let small : FitsFile c.args.bytes.now = omega arith in
    let few : steps_of c.in-Ok.log ≤ MOST_STEPS = omega (arith, c.steps.ensures) in
    let a = log-answers c.args.bytes.now c.in-Ok.log small fits c.in-Ok.ensures few in
    record { ok = a.ok; too_large = a.too_large; no_log = a.no_log; bad = a.bad }

use Rattle.std.proofs.Common.{◌≡◌, ◌≢◌, ◌+◌, ◌<◌, Option, ◌-◌, ℕ, List, length, inr, Some, sym, subst, arith}
use Rattle.std.proofs.lemmas.Bool.{eqb-false}
use Rattle.sched_text.specs.declared.run.Run.{Run}
use Rattle.sched_text.specs.FirstBad.{IsFirstBad}
use Rattle.sched_text.specs.FirstBadLaws.{no_bad_line}
use Rattle.sched_text.specs.Reading.{MayFollow}
use Rattle.sched_text.proofs.ReadLines.{IsRead, bad_line, line_read, line_shortens}
use Rattle.sched_text.proofs.read.read_schedule.Goals as goal

not_zero : (n : ℕ) → n ≢ 0 → 0 < n
not_zero n some = omega arith

same_room : (last : Option ℕ) (m n : ℕ) (run : Run) → m ≡ n → MayFollow last (1000000 - m) run → MayFollow last (1000000 - n) run
same_room last m n run same may = let P : ℕ → Type 0 = λ k. MayFollow last (1000000 - k) run in subst P same may

first_bad : (c : goal.After-drop-schedule-inside) → IsFirstBad c.args.bytes.now c.loop-rest.line
first_bad c = bad_line c.args.bytes.now c.loop-rest.schedule c.loop-rest.last c.loop-rest.line c.loop-rest.rest.now c.loop-rest.invariant.read
    (not_zero (length c.loop-rest.rest.now) (eqb-false (length c.loop-rest.rest.now) 0 (sym c.loop-rest-test.ensures)))
    (λ run after may line. c.in_default.ensures.none run after (same_room c.loop-rest.last _ _ run (sym c.len-room.ensures) may) line)

pub returns-in_default-clause-first_bad : goal.returns-in_default-clause-first_bad
returns-in_default-clause-first_bad c = first_bad c

pub returns-in_default-clause-no_schedule : goal.returns-in_default-clause-no_schedule
returns-in_default-clause-no_schedule c = inr (λ found. no_bad_line c.args.bytes.now found.0 c.loop-rest.line (first_bad c) found.1)

pub loop-rest-preserved : goal.loop-rest-preserved
loop-rest-preserved c =
    let P : List ℕ → Type 0 = λ steps. IsRead c.args.bytes.now steps (Some c.in-Some.run'.thread) (c.loop-rest.line + 1) c.in-Some.after.now in
    let shorter = line_shortens c.loop-rest.rest.now c.in-Some.after.now c.in-Some.run' c.in-Some.ensures.line in
    record {
      read = subst P (sym c.in_ok-append.ensures) (line_read c.args.bytes.now c.loop-rest.schedule c.loop-rest.last c.loop-rest.line c.loop-rest.rest.now c.in-Some.after.now c.in-Some.run' c.loop-rest.invariant.read (same_room c.loop-rest.last _ _ c.in-Some.run' c.len-room.ensures c.in-Some.ensures.run) c.in-Some.ensures.line);
      counted = omega (arith, c.loop-rest.invariant.counted);
    }

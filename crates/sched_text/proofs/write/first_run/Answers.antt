use Rattle.std.proofs.Common.{ℕ, sym, subst}
use Rattle.sched_text.specs.TextLaws.{BeginsWith, schedule_text-first}
use Rattle.sched_text.specs.RunLaws.{run}
use Rattle.sched_text.proofs.write.first_run.Goals as goal

pub returns-clause-first : goal.returns-clause-first
returns-clause-first c =
    let P : ℕ → Type 0 = λ n. BeginsWith c.args.steps.now (run c.in_ok-thread.field-0.now n) in
    subst P (sym c.run_length-count.ensures.count) (schedule_text-first c.in_ok-thread.field-0.now c.args.steps.now (sym c.in_ok-thread.ensures.value))

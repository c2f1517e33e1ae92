use Rattle.std.specs.Prelude.{Contains, refl}
use Rattle.odr_log.specs.declared.log.Pos.{Pos}
use Rattle.schedule_rows.proofs.Members.{below_more}
use Rattle.schedule_rows.proofs.fitting.has_steps.Goals as goal

pub loop-step-preserved : goal.loop-step-preserved
loop-step-preserved c =
    below_more (λ step. Contains c.args.steps.now (let p : Pos = record { thread = c.args.thread; step = step } in p)) c.loop-step.step c.loop-step.invariant
    (c.if-not-has_step.ensures refl)

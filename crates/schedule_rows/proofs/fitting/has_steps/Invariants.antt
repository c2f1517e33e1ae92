use Rattle.schedule_rows.specs.Fitting.{HasSteps}
use Rattle.schedule_rows.proofs.fitting.has_steps.Given as goal

abbrev pub invariant-loop-step : goal.invariant-loop-step
invariant-loop-step l = HasSteps l.steps l.thread l.step

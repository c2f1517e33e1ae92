use Rattle.std.specs.Prelude.{ℕ, ◌<◌}
use Rattle.schedule_rows.specs.Fitting.{IsLast}
use Rattle.schedule_rows.proofs.fitting.are_in_order.Given as goal

abbrev pub invariant-loop-at : goal.invariant-loop-at
invariant-loop-at l = (at : ℕ) → at < l.at → IsLast l.log l.decided l.steps at

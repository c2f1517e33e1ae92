use Rattle.std.proofs.Common.{ℕ, List, subst}
use Rattle.std.specs.Prelude.{IfOk}
use Rattle.sat_core.specs.Searching.{IsAnswer, Task}
use Rattle.sat_core.proofs.solver.Solver.solve.Goals as goal

pub returns : goal.returns
returns c =
    subst (λ (task : Task). IfOk c.take_turns.result (λ answer. IsAnswer task.formula task.first c.args.budget answer)) c.self.view_is
    (subst (λ (first : List ℕ). IfOk c.take_turns.result (λ answer. IsAnswer c.self.inside.clauses.now first c.args.budget answer)) c.as_slice.ensures.value c.take_turns.ensures)

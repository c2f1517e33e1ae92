use Rattle.std.proofs.Common.{◌≡◌, length}
use Rattle.step_terms.specs.Made.{Grows}
use Rattle.thread_terms.specs.Variables.{AreVariables}
use Rattle.thread_terms.proofs.variables.bytes.Given as goal

abbrev pub invariant-loop-index : goal.invariant-loop-index
invariant-loop-index l = record {
  count : length l.variables ≡ l.index;
  grows : Grows l.fn.pool l.pool;
  variables : AreVariables l.pool l.pos l.variables;
}

use Rattle.std.proofs.Common.{take}
use Rattle.step_terms.specs.Made.{Grows}
use Rattle.call_terms.specs.Moved.{AreConstants}
use Rattle.call_terms.proofs.call.constants.Given as goal

abbrev pub invariant-loop-index : goal.invariant-loop-index
invariant-loop-index l = record {
  grows : Grows l.fn.pool l.pool;
  constants : AreConstants l.pool (take l.index l.recorded) l.terms;
}

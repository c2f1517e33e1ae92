use Rattle.std.proofs.Common.{◌≡◌, take}
use Rattle.step_terms.specs.Bytes.{numbers, values}
use Rattle.step_terms.specs.Made.{Grows}
use Rattle.call_terms.specs.Constraints.{HoldsWhere}
use Rattle.call_terms.proofs.buffer.bytes_equal.Given as goal

abbrev pub invariant-loop-index : goal.invariant-loop-index
invariant-loop-index g l = record {
  grows : Grows l.fn.pool l.pool;
  equal : HoldsWhere l.fn.pool l.pool (numbers l.bytes) l.test.number (λ w. take l.index (values w l.fn.pool l.bytes) ≡ take l.index l.recorded);
}

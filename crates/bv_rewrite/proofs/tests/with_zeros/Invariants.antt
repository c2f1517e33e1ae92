use Rattle.std.proofs.Common.{◌≡◌, ◌<◌, length}
use Rattle.bv_terms.specs.Values.{KeepsTerms, width_at}
use Rattle.bv_rewrite.proofs.tests.with_zeros.Given as goal

abbrev pub invariant-loop-i : goal.invariant-loop-i
invariant-loop-i l = record {
  older : KeepsTerms l.fn.pool l.pool;
  inside : l.sum.number < length l.pool;
  width : width_at l.pool l.sum.number ≡ width_at l.fn.pool l.fn.term.number;
}

use Rattle.std.proofs.Common.{◌∷◌, []}
use Rattle.bv_terms.specs.BitVectors.{bit_of}
use Rattle.bv_terms.specs.Values.{value_at}
use Rattle.step_terms.specs.Made.{Grows, IsMade}
use Rattle.hit_terms.specs.Hits.{reaches_word}
use Rattle.hit_terms.proofs.touch.reaches_word.Given as goal

abbrev pub invariant-loop-index : goal.invariant-loop-index
invariant-loop-index g l = record {
  grows : Grows l.fn.pool l.pool;
  made : IsMade l.fn.pool l.pool (l.address.number ∷ l.reserved.number ∷ []) 1
      (λ w. bit_of (reaches_word l.index (value_at w l.fn.pool l.address.number) (value_at w l.fn.pool l.reserved.number))) l.test.number;
}

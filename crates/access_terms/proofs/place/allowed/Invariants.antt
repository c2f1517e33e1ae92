use Rattle.std.proofs.Common.{◌-◌, ◌∷◌, [], drop, length}
use Rattle.bv_terms.specs.BitVectors.{bit_of}
use Rattle.bv_terms.specs.Values.{value_at}
use Rattle.step_terms.specs.Made.{Grows, IsMade}
use Rattle.access_terms.specs.Rights.{allows_in}
use Rattle.access_terms.proofs.place.allowed.Given as goal

abbrev pub invariant-loop-done : goal.invariant-loop-done
invariant-loop-done g l = record {
  grows : Grows l.fn.pool l.pool;
  made : IsMade l.fn.pool l.pool (l.address.number ∷ []) 1 (λ w. bit_of (allows_in l.right (drop (length l.regions - l.done) l.regions) (value_at w l.fn.pool l.address.number))) l.test.number;
}

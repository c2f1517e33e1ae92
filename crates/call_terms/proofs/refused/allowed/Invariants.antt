use Rattle.std.proofs.Common.{◌&&◌, ◌∷◌, []}
use Rattle.elf_image.specs.Memory.{opening_cells}
use Rattle.bv_terms.specs.BitVectors.{bit_of}
use Rattle.bv_terms.specs.Values.{value_at}
use Rattle.rv_model.specs.Calls.{fits_buffer}
use Rattle.step_terms.specs.Made.{Grows, IsMade}
use Rattle.access_terms.specs.Rights.{all_allow}
use Rattle.call_terms.proofs.Buffers.{least}
use Rattle.call_terms.proofs.refused.allowed.Given as goal

abbrev pub invariant-loop-index : goal.invariant-loop-index
invariant-loop-index g l = record {
  grows : Grows l.fn.pool l.pool;
  made : IsMade l.fn.pool l.pool (l.address.number ∷ l.count.number ∷ []) 1
      (λ w. bit_of (fits_buffer (value_at w l.fn.pool l.count.number)
      && all_allow l.right (opening_cells l.image) (value_at w l.fn.pool l.address.number) (least (value_at w l.fn.pool l.count.number) l.index))) l.test.number;
}

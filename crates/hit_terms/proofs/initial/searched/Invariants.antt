use Rattle.std.proofs.Common.{◌-◌, ◌∷◌, [], drop, length}
use Rattle.bv_terms.specs.Values.{value_at}
use Rattle.elf_image.specs.Layout.{region_at}
use Rattle.elf_image.specs.Memory.{byte_in, cell_in}
use Rattle.step_terms.specs.Made.{Grows, IsMade}
use Rattle.hit_terms.proofs.initial.searched.Given as goal

abbrev pub invariant-loop-done : goal.invariant-loop-done
invariant-loop-done g l = record {
  grows : Grows l.fn.pool l.pool;
  made : IsMade l.fn.pool l.pool (l.address.number ∷ []) 8
      (λ w. byte_in (cell_in (region_at (drop (length l.regions - l.done) l.regions) (value_at w l.fn.pool l.address.number)) (value_at w l.fn.pool l.address.number))) l.byte.number;
}

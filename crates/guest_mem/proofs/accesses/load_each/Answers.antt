use Rattle.std.proofs.Common.{ℕ, ◌+◌, ◌-◌, List, [], ◌∷◌, ◌++◌, length, take, sym, ap, ◌∙◌, append_assoc, arith}
use Rattle.std.proofs.lemmas.List.{take_more_set}
use Rattle.elf_image.specs.Memory.{Cells, next, bytes_from}
use Rattle.guest_mem.specs.Blocks.{cells_of}
use Rattle.guest_mem.proofs.Spans.{bytes_from-more}
use Rattle.guest_mem.proofs.accesses.load_each.Goals as goal

pub loop-slot-preserved : goal.loop-slot-preserved
loop-slot-preserved c =
    let cells : Cells = cells_of c.args.blocks.now in
    let at : ℕ = c.loop-slot.at in
    let index : ℕ = c.loop-slot.slot-index in
    let into : List ℕ = c.loop-slot.into in
    let count : ℕ = length c.args.into.now in
    let rest : List ℕ = bytes_from cells (next at) (count - (index + 1)) in
    ap (λ (bytes : List ℕ). bytes ++ rest) (take_more_set into index c.byte_at.result (omega arith))
    ∙ append_assoc (take index into) (c.byte_at.result ∷ []) rest
    ∙ ap (λ (byte : ℕ). take index into ++ byte ∷ rest) c.byte_at.ensures
    ∙ ap (λ (bytes : List ℕ). take index into ++ bytes) (sym (bytes_from-more cells at count index (omega arith)))
    ∙ c.loop-slot.invariant

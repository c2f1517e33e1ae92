use Rattle.std.proofs.Common.{◌≡◌, ◌-◌, ◌+◌, ℕ, List, [], ◌∷◌, ◌++◌, sym, ◌∙◌, ap, append_assoc, arith}
use Rattle.elf_image.specs.Memory.{Cells, opening_cells, cells_after, next, byte_in, bytes_from}
use Rattle.guest_mem.proofs.Spans.{bytes_from-more}
use Rattle.plain_machine.proofs.memory.bytes_from.Goals as goal

pub loop-done-preserved : goal.loop-done-preserved
loop-done-preserved c =
    let cells : Cells = cells_after (opening_cells c.args.image.now) c.args.writes.now in
    let rest : List ℕ = bytes_from cells (next c.loop-done.at) (c.args.count - (c.loop-done._done + 1)) in
    let byte : c.byte_in.result ≡ byte_in (cells c.loop-done.at) = c.byte_in.ensures ∙ ap byte_in c.cell.ensures in
    let pushed : c.push.new.self ≡ c.loop-done.bytes ++ byte_in (cells c.loop-done.at) ∷ [] = grind (arith, byte) in
    ap (λ (bytes : List ℕ). bytes ++ rest) pushed
    ∙ append_assoc c.loop-done.bytes (byte_in (cells c.loop-done.at) ∷ []) rest
    ∙ ap (λ (bytes : List ℕ). c.loop-done.bytes ++ bytes) (sym (bytes_from-more cells c.loop-done.at c.args.count c.loop-done._done (omega arith)))
    ∙ c.loop-done.invariant

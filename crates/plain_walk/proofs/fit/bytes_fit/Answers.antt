use Rattle.std.proofs.Common.{◌≡◌, refl, sym, ◌∙◌, ap}
use Rattle.elf_image.specs.Memory.{Cells, opening_cells, cells_after, byte_in}
use Rattle.plain_walk.specs.Data.{byte_of}
use Rattle.plain_walk.proofs.FitLemmas.{bytes_more}
use Rattle.plain_walk.proofs.fit.bytes_fit.Goals as goal

pub loop-i-preserved : goal.loop-i-preserved
loop-i-preserved c =
    let memory : Cells = cells_after (opening_cells c.args.image.now) c.args.writes.now in
    let equal : c.byte_of.result ≡ c.byte_in.result = first_of (assumption (c.if-byte_of-byte_in.false), search (c.if-byte_of-byte_in.false)) in
    let same : byte_of c.args.bytes.now c.loop-i.i ≡ byte_in (memory c.loop-i.at) =
    sym c.byte_of.ensures ∙ equal ∙ c.byte_in.ensures ∙ ap byte_in c.cell.ensures in
    bytes_more (byte_of c.args.bytes.now) memory c.args.address c.loop-i.i c.loop-i.at _ c.loop-i.invariant same refl

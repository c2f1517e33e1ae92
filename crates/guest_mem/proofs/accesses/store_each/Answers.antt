use Rattle.std.proofs.Common.{ℕ, ◌+◌, ◌-◌, List, [], ◌∷◌, length, get_or, sym, ◌∙◌, arith}
use Rattle.std.proofs.lemmas.Bool.{and_parts}
use Rattle.std.proofs.lemmas.List.{at_drop_more}
use Rattle.elf_image.specs.declared.write.Write.{Write}
use Rattle.elf_image.specs.Memory.{next, is_writable, all_writable, writes_of}
use Rattle.guest_mem.specs.Blocks.{cells_of}
use Rattle.guest_mem.specs.Laws.{Stands-then, is_writable-Stands}
use Rattle.guest_mem.proofs.Spans.{all_writable-more}
use Rattle.guest_mem.proofs.accesses.store_each.Goals as goal

pub store_byte-requires-clause-writable : goal.store_byte-requires-clause-writable
store_byte-requires-clause-writable c =
    let cells = cells_of c.args.blocks.now in
    let left = length c.args.bytes.now - (c.loop-byte.byte-index + 1) in
    let more = all_writable-more cells c.loop-byte.at (length c.args.bytes.now) c.loop-byte.byte-index (omega arith) in
    let parts = and_parts (is_writable (cells c.loop-byte.at)) (all_writable cells (next c.loop-byte.at) left) (sym more ∙ c.loop-byte.invariant.writable) in
    is_writable-Stands cells (cells_of c.loop-byte.blocks) c.loop-byte.invariant.writes c.loop-byte.at c.loop-byte.invariant.stands ∙ parts.0

pub loop-byte-preserved : goal.loop-byte-preserved
loop-byte-preserved c =
    let cells = cells_of c.args.blocks.now in
    let bytes = c.args.bytes.now in
    let at = c.loop-byte.at in
    let index = c.loop-byte.byte-index in
    let older = c.loop-byte.invariant.writes in
    let byte = get_or bytes index 0 in
    let write : Write = record { address = at; byte = byte } in
    let more = all_writable-more cells at (length bytes) index (omega arith) in
    let parts = and_parts (is_writable (cells at)) (all_writable cells (next at) (length bytes - (index + 1))) (sym more ∙ c.loop-byte.invariant.writable) in
    record {
      apart = c.store_byte.ensures.apart;
      writes = write ∷ older;
      stands = Stands-then cells (cells_of c.loop-byte.blocks) (cells_of c.store_byte.new.blocks) older (write ∷ []) c.loop-byte.invariant.stands c.store_byte.ensures.stored;
      rest = sym (at_drop_more (λ (bs : List ℕ). writes_of at bs older) bytes index 0 (omega arith)) ∙ c.loop-byte.invariant.rest;
      writable = parts.1;
    }

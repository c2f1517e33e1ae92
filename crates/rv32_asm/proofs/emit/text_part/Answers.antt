use Rattle.std.proofs.Common.{◌≡◌, ◌++◌, [], None, Ok, map, get_or, arith, ◌<◌, length}
use Rattle.rv32_asm.specs.declared.draft.Entry.{Entry as ReadEntry}
use Rattle.rv32_asm.specs.Assembly.{entry_code, entries_code}
use Rattle.rv32_asm.specs.Seen.{instrs_of, label_seen, entry_seen}
use Rattle.rv32_asm.proofs.Emitting.{both, entry_step}
use Rattle.rv32_asm.proofs.emit.text_part.Goals as goal

pub loop-entry-preserved : goal.loop-entry-preserved
loop-entry-preserved c =
    let labels = c.args.draft.now.labels.items in
    let entries = c.args.draft.now.entries.items in
    let none : ReadEntry = record { line = 0; address = 0; code = None } in
    let code = c.loop-entry.invariant.0 in
    let first = instrs_of c.in_ok-resolved.resolved in
    let there : c.loop-entry.entry-index < length entries = omega (arith, c.as_slice-entry-items.ensures.len) in
    let given : entry_code (map label_seen labels) (entry_seen (get_or entries c.loop-entry.entry-index none)) ≡ Ok first =
    rw (c.as_slice.ensures.value, c.as_slice-entry-items.ensures.value) at c.in_ok-resolved.ensures.value in (
      code ++ first,
      both code first [] c.loop-entry.text.items c.push_resolved.new.text.items c.loop-entry.invariant.1 c.in_ok-push_resolved.ensures,
      entry_step labels entries c.loop-entry.entry-index none code first (entries_code (map label_seen labels) (map entry_seen entries)) there given c.loop-entry.invariant.2,
    )

use Rattle.std.proofs.Common.{◌≡◌, List, [], drop, map}
use Rattle.rv32_decode.specs.declared.instr.Instr.{Instr}
use Rattle.rv32_asm.specs.Assembly.{entries_code}
use Rattle.rv32_asm.specs.File.{AppendsCode}
use Rattle.rv32_asm.specs.Seen.{label_seen, entry_seen}
use Rattle.rv32_asm.proofs.Emitting.{with_code}
use Rattle.rv32_asm.proofs.emit.text_part.Given as goal

-- the instructions so far, before those of the entries that are left, are those of all entries
abbrev pub invariant-loop-entry : goal.invariant-loop-entry
invariant-loop-entry l = (code : List Instr) × AppendsCode code [] l.text.items
    × (with_code code (entries_code (map label_seen l.draft.labels.items) (map entry_seen (drop l.entry-index l.draft.entries.items)))
    ≡ entries_code (map label_seen l.draft.labels.items) (map entry_seen l.draft.entries.items))

use Rattle.std.proofs.Common.{◌≡◌, ◌≤◌, ◌+◌, length}
use Rattle.rv32_asm.specs.Line.{lines_of}
use Rattle.rv32_asm.specs.Draft.{after_lines, draft_of}
use Rattle.rv32_asm.specs.Seen.{draft_seen, IsSoundDraft}
use Rattle.rv32_asm.proofs.draft.read_draft.Given as goal

-- the lines that are left lead to the whole
abbrev pub invariant-loop-rest : goal.invariant-loop-rest
invariant-loop-rest l = record {
  whole : after_lines (draft_seen l.draft) (lines_of l.rest) ≡ draft_of l.text;
  sound : IsSoundDraft l.draft;
  lines : l.draft.lines + length l.rest ≤ length l.text;
}

abbrev pub decreases-loop-rest : goal.decreases-loop-rest
decreases-loop-rest l = length l.rest

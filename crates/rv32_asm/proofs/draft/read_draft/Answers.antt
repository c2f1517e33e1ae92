use Rattle.std.proofs.Common.{arith}
use Rattle.rv32_asm.specs.Draft.{draft_of}
use Rattle.rv32_asm.specs.Seen.{draft_seen, line_seen}
use Rattle.rv32_asm.proofs.DraftLines.{one_line, no_line, lines-after_line}
use Rattle.rv32_asm.proofs.draft.read_draft.Goals as goal

pub loop-rest-preserved : goal.loop-rest-preserved
loop-rest-preserved c =
    let taken = c.in_ok-take_line.ensures.value in
    let counted = lines-after_line (draft_seen c.loop-rest.draft) (draft_seen c.take_line.new.self) (line_seen c.in_ok-read_line.field-0) taken in
    record {
      whole = one_line (draft_seen c.loop-rest.draft) (draft_seen c.take_line.new.self) c.loop-rest.rest.now c.first_line.result.0.now c.first_line.result.1.now
          (line_seen c.in_ok-read_line.field-0) (draft_of c.args.text.now) c.first_line.ensures.lines c.in_ok-read_line.ensures.value taken c.loop-rest.invariant.whole;
      sound = c.in_ok-take_line.ensures.sound;
      lines = omega (arith, counted, c.first_line.ensures.shorter, c.loop-rest.invariant.lines);
    }

pub returns-clause-value : goal.returns-clause-value
returns-clause-value c = no_line (draft_seen c.loop-rest.draft) c.loop-rest.rest.now (draft_of c.args.text.now) c.loop-rest-test.ensures c.loop-rest.invariant.whole

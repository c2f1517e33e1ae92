use Rattle.std.proofs.Common.{ℕ, List, ◌∷◌, ap, sym, ◌∙◌}
use Rattle.rv32_asm.specs.Line.{lines_of}
use Rattle.rv32_asm.proofs.Lines.{first_and_rest, first_and_none, behind_feed}
use Rattle.rv32_asm.proofs.line.first_line.Goals as goal

pub returns-in-empty-clause-lines : goal.returns-in-empty-clause-lines
returns-in-empty-clause-lines c =
    first_and_none c.args.text.now c.split_at.result.0.now c.split_at.result.1.now c.line_len-len.result c.requires c.line_len-len.ensures.count
    c.split_at.ensures.front c.split_at.ensures.back c.in-empty.len_below

pub returns-in-len1-up-clause-lines : goal.returns-in-len1-up-clause-lines
returns-in-len1-up-clause-lines c =
    first_and_rest c.args.text.now c.split_at.result.0.now c.split_at.result.1.now c.line_len-len.result c.requires c.line_len-len.ensures.count
    c.split_at.ensures.front c.split_at.ensures.back
    ∙ ap (λ (rest : List ℕ). c.split_at.result.0.now ∷ lines_of rest) (sym (behind_feed c.split_at.result.1.now))

-- A draft, line by line.
use Rattle.std.proofs.Common.{◌≡◌, ℕ, true, ◌+◌, List, [], ◌∷◌, length, Option, Some, None, refl, sym, ap, ◌∙◌, arith}
use Rattle.std.proofs.lemmas.Bool.{eqb-true}
use Rattle.std.specs.Prelude.{◌==◌}
use Rattle.rv32_asm.specs.Line.{Line, line_of, lines_of}
use Rattle.rv32_asm.specs.Draft.{Draft, labels_with, settled, with_statement, after_line, after_lines}
use Rattle.rv32_asm.specs.Statement.{Statement, Empty, Choose, Bytes, Instruction}

pub one_line : (d e : Draft) (text line rest : List ℕ) (l : Line) (whole : Draft) → lines_of text ≡ line ∷ lines_of rest → l ≡ line_of line
    → e ≡ after_line d l → after_lines d (lines_of text) ≡ whole → after_lines e (lines_of rest) ≡ whole
unfolding after_lines
one_line d e text line rest l whole split read taken all =
    ap (λ (x : Draft). after_lines x (lines_of rest)) (taken ∙ ap (after_line d) read) ∙ ap (after_lines d) (sym split) ∙ all

pub no_line : (d : Draft) (rest : List ℕ) (whole : Draft) → true ≡ (length rest == 0) → after_lines d (lines_of rest) ≡ whole → d ≡ whole
unfolding after_lines
no_line d [] whole none all = all
no_line d (b ∷ rest) whole none all = let empty : length (b ∷ rest) ≡ 0 = eqb-true (length (b ∷ rest)) 0 (sym none) in absurd (omega arith)

lines-with_statement : (d : Draft) (s : Option Statement) → (with_statement d s).lines ≡ d.lines
lines-with_statement d None = refl
lines-with_statement d (Some Empty) = refl
lines-with_statement d (Some (Choose p)) = refl
lines-with_statement d (Some (Bytes bytes)) = refl
lines-with_statement d (Some (Instruction code)) = refl

-- each line counts as one
pub lines-after_line : (d e : Draft) (l : Line) → e ≡ after_line d l → e.lines ≡ d.lines + 1
unfolding after_line
lines-after_line d e l taken =
    ap (λ (x : Draft). x.lines) taken ∙ lines-with_statement (record d { lines = d.lines + 1; labels = labels_with d l.label }) (settled d l)

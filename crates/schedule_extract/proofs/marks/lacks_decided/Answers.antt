use Rattle.std.proofs.Common.{sym, ◌∙◌, arith}
use Rattle.std.proofs.lemmas.Bool.{false≢true}
use Rattle.schedule_extract.proofs.Passing.{all_taken, same_test}
use Rattle.schedule_extract.proofs.marks.lacks_decided.Goals as goal
use Rattle.schedule_extract.proofs.marks.lacks_decided.Goals.{else-mark-pairs-via-then-mark-pairs+else-eq, else-mark-pairs-via-else-mark-pairs}

pub returns-clause-none : goal.returns-clause-none
returns-clause-none c =
    all_taken c.args.pairs.now c.args.next.now c.args.at c.args.mark c.requires.sorted c.requires.passed c.requires.next _
    (elim c.else-mark-pairs.branch [
      | else-mark-pairs-via-then-mark-pairs+else-eq w ↦ (λ within same. absurd (false≢true (sym w.if-eq.false ∙ w.eq.ensures ∙ same_test _ c.args.at same)))
      | else-mark-pairs-via-else-mark-pairs w ↦ (λ within same. absurd (omega (arith, within, w.if-mark-pairs.false)))
    ])

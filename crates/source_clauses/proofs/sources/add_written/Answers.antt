use Rattle.std.proofs.Common.{ℕ, length, ◌∙◌, ap, arith}
use Rattle.order_clauses.proofs.Added.{added_more, added_all}
use Rattle.source_clauses.specs.declared.reader.Candidate.{Candidate}
use Rattle.source_clauses.specs.Sees.{candidate_at}
use Rattle.source_clauses.specs.Clauses.{Copied, selection_at}
use Rattle.source_clauses.proofs.Pieces.{copied_as}
use Rattle.source_clauses.proofs.sources.add_written.Goals as goal

pub loop-i-preserved : goal.loop-i-preserved
loop-i-preserved c =
    let reader = c.args.reader.now in
    let selected = c.args.named.now.selected in
    added_more c.args.clauses.now c.loop-i.clauses c.add_bits.new.clauses (length reader.candidates)
    (λ (i : ℕ). Copied (selection_at selected i) (candidate_at reader.candidates i).bits reader.read) c.loop-i.i
    (omega (arith, c.loop-i-test.true, c.len-i-end.ensures)) c.loop-i.invariant
    (copied_as c.loop-i.clauses c.add_bits.new.clauses c.selection.result (selection_at selected c.loop-i.i) c.as_slice.result.now
    (candidate_at reader.candidates c.loop-i.i).bits c.as_slice-in-loop-i.result.now reader.read c.selection.ensures
    (c.as_slice.ensures ∙ ap (λ (one : Candidate). one.bits) c.candidate.ensures) c.as_slice-in-loop-i.ensures c.in_ok-add_bits.ensures.ok)

pub returns-clause-ok : goal.returns-clause-ok
returns-clause-ok c =
    let reader = c.args.reader.now in
    added_all c.args.clauses.now c.loop-i.clauses (length reader.candidates)
    (λ (i : ℕ). Copied (selection_at c.args.named.now.selected i) (candidate_at reader.candidates i).bits reader.read) c.loop-i.i
    (omega (arith, c.loop-i-test.false, c.len-i-end.ensures)) c.loop-i.invariant

use Rattle.std.proofs.Common.{ℕ, ◌≡◌, ◌+◌, List, length, subst}
use Rattle.clause_store.specs.Formula.{Formula}
use Rattle.source_clauses.specs.declared.reader.Candidate.{Candidate}
use Rattle.source_clauses.specs.Clauses.{AreSelected, AreNexts}
use Rattle.source_clauses.proofs.Adding.{reader_added, reader_known}
use Rattle.source_clauses.proofs.sources.add_reader.Goals as goal

pub add_selected-requires-clause-reader_known : goal.add_selected-requires-clause-reader_known
add_selected-requires-clause-reader_known c =
    reader_known c.args.clauses.now c.olders_of.new.clauses c.selections.new.clauses c.args.table.now c.args.reader.now (c.len.result + 1) c.requires.known
    c.in_ok-olders.ensures.olders.grows c.in_ok-selected.ensures.ok

pub returns-clause-ok : goal.returns-clause-ok
returns-clause-ok c =
    let gated : Formula = c.olders_of.new.clauses in
    let varied : Formula = c.selections.new.clauses in
    let table = c.args.table.now in
    reader_added c.args.clauses.now gated varied c.add_selected.new.clauses table c.args.reader.now
    (record { selected = c.in_ok-selected.selected; olders = c.in_ok-olders.olders; nexts = c.in_ok-nexts.nexts })
    (record {
      knows = c.requires.known;
      gated_known = c.vars-vars.ensures.known;
      olders = c.in_ok-olders.ensures.olders;
      selected = subst (λ (n : ℕ). AreSelected gated.vars (n + 1) c.in_ok-selected.selected) c.len.ensures c.in_ok-selected.ensures.selected;
      varied_is = subst (λ (n : ℕ). varied ≡ record gated { vars = gated.vars + (n + 1) }) c.len.ensures c.in_ok-selected.ensures.ok;
      nexts = subst (λ (cs : List Candidate). AreNexts table cs (length cs) c.in_ok-nexts.nexts) c.as_slice.ensures c.in_ok-nexts.ensures;
      adds = c.in_ok-add_selected.ensures.ok;
    })

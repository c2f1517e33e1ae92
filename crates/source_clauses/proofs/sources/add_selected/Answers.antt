use Rattle.std.proofs.Common.{List, [], ◌∷◌, ◌++◌, ◌∙◌, ap}
use Rattle.clause_store.specs.declared.lit.Lit.{Lit}
use Rattle.source_clauses.proofs.Pieces.{reader_clauses}
use Rattle.source_clauses.proofs.sources.add_selected.Goals as goal

pub returns-clause-ok : goal.returns-clause-ok
returns-clause-ok c =
    let old = c.args.clauses.now in
    reader_clauses c.args.table.now c.args.reader.now c.args.named.now old c.add.new.self c.add_older.new.clauses c.add_newest_of_all.new.clauses
    c.add_unwritten.new.clauses c.add_written.new.clauses c.add_initial.new.clauses
    (c.in_ok-add.ensures.ok ∙ ap (λ (s : List Lit). record { vars = old.vars; clauses = old.clauses ++ s ∷ [] }) c.as_slice.ensures)
    c.in_ok-add_older.ensures.ok c.in_ok-add_newest_of_all.ensures.ok c.in_ok-add_unwritten.ensures.ok c.in_ok-add_written.ensures.ok
    c.in_ok-add_initial.ensures.ok

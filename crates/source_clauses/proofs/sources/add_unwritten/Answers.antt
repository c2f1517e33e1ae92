use Rattle.std.proofs.Common.{ℕ, List, length, ◌∙◌, ap, arith}
use Rattle.std.specs.Prelude.{Contains}
use Rattle.clause_store.specs.declared.lit.Lit.{Lit}
use Rattle.order_clauses.specs.declared.order_lit.OrderLit.TheVariants as order_lit
use Rattle.std.proofs.Common.{refl}
use Rattle.source_clauses.specs.Clauses.{implied, selection_at, older_at}
use Rattle.source_clauses.proofs.Pieces.{implied_added, known_same, known_selection, known_older}
use Rattle.order_clauses.proofs.Added.{added_more, added_all}
use Rattle.source_clauses.proofs.sources.add_unwritten.Goals as goal

pub loop-j-preserved : goal.loop-j-preserved
loop-j-preserved c =
    added_more c.args.clauses.now c.loop-j.clauses c.add_implied.new.clauses (length c.args.reader.now.candidates) (λ (j : ℕ). λ (k : List Lit). Contains (implied (selection_at c.args.named.now.selected (length c.args.reader.now.candidates)) (older_at c.args.named.now.olders j) order_lit.Never) k) c.loop-j.j (omega (arith, c.loop-j-test.true, c.len-j-end.ensures)) c.loop-j.invariant
    (implied_added c.loop-j.clauses c.add_implied.new.clauses c.selection-unwritten.result c.older.result order_lit.Never (selection_at c.args.named.now.selected (length c.args.reader.now.candidates)) (older_at c.args.named.now.olders c.loop-j.j) order_lit.Never (c.selection-unwritten.ensures ∙ ap (λ (n : ℕ). selection_at c.args.named.now.selected n) c.len.ensures) c.older.ensures refl c.in_ok-add_implied.ensures.ok)

pub returns-clause-ok : goal.returns-clause-ok
returns-clause-ok c =
    added_all c.args.clauses.now c.loop-j.clauses (length c.args.reader.now.candidates) (λ (j : ℕ). λ (k : List Lit). Contains (implied (selection_at c.args.named.now.selected (length c.args.reader.now.candidates)) (older_at c.args.named.now.olders j) order_lit.Never) k) c.loop-j.j (omega (arith, c.loop-j-test.false, c.len-j-end.ensures)) c.loop-j.invariant

pub add_implied-requires-clause-selection_known : goal.add_implied-requires-clause-selection_known
add_implied-requires-clause-selection_known c =
    known_selection c.loop-j.clauses.vars c.args.table.now c.args.reader.now c.args.named.now (known_same c.args.clauses.now.vars c.loop-j.clauses.vars c.args.table.now c.args.reader.now c.args.named.now c.loop-j.invariant.adds.vars c.requires.named_known) (length c.args.reader.now.candidates)
    (omega arith) c.selection-unwritten.result (c.selection-unwritten.ensures ∙ ap (λ (n : ℕ). selection_at c.args.named.now.selected n) c.len.ensures)

pub add_implied-requires-clause-given_known : goal.add_implied-requires-clause-given_known
add_implied-requires-clause-given_known c =
    known_older c.loop-j.clauses.vars c.args.table.now c.args.reader.now c.args.named.now (known_same c.args.clauses.now.vars c.loop-j.clauses.vars c.args.table.now c.args.reader.now c.args.named.now c.loop-j.invariant.adds.vars c.requires.named_known) c.loop-j.j
    (omega (arith, c.loop-j-test.true, c.len-j-end.ensures)) c.older.result c.older.ensures

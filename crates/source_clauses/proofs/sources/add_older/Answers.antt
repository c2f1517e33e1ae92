use Rattle.std.proofs.Common.{ℕ, List, length, arith}
use Rattle.std.specs.Prelude.{Contains}
use Rattle.clause_store.specs.declared.lit.Lit.{Lit}
use Rattle.order_clauses.specs.declared.order_lit.OrderLit.TheVariants as order_lit
use Rattle.std.proofs.Common.{refl}
use Rattle.source_clauses.specs.Clauses.{implied, selection_at, older_at}
use Rattle.source_clauses.proofs.Pieces.{implied_added, known_same, known_selection, known_older}
use Rattle.order_clauses.proofs.Added.{added_more, added_all}
use Rattle.source_clauses.proofs.sources.add_older.Goals as goal

pub loop-i-preserved : goal.loop-i-preserved
loop-i-preserved c =
    added_more c.args.clauses.now c.loop-i.clauses c.add_implied.new.clauses (length c.args.reader.now.candidates) (λ (i : ℕ). λ (k : List Lit). Contains (implied (selection_at c.args.named.now.selected i) order_lit.Always (older_at c.args.named.now.olders i)) k) c.loop-i.i (omega (arith, c.loop-i-test.true, c.len-i-end.ensures)) c.loop-i.invariant
    (implied_added c.loop-i.clauses c.add_implied.new.clauses c.selection.result order_lit.Always c.older.result (selection_at c.args.named.now.selected c.loop-i.i) order_lit.Always (older_at c.args.named.now.olders c.loop-i.i) c.selection.ensures refl c.older.ensures c.in_ok-add_implied.ensures.ok)

pub returns-clause-ok : goal.returns-clause-ok
returns-clause-ok c =
    added_all c.args.clauses.now c.loop-i.clauses (length c.args.reader.now.candidates) (λ (i : ℕ). λ (k : List Lit). Contains (implied (selection_at c.args.named.now.selected i) order_lit.Always (older_at c.args.named.now.olders i)) k) c.loop-i.i (omega (arith, c.loop-i-test.false, c.len-i-end.ensures)) c.loop-i.invariant

pub add_implied-requires-clause-selection_known : goal.add_implied-requires-clause-selection_known
add_implied-requires-clause-selection_known c =
    known_selection c.loop-i.clauses.vars c.args.table.now c.args.reader.now c.args.named.now (known_same c.args.clauses.now.vars c.loop-i.clauses.vars c.args.table.now c.args.reader.now c.args.named.now c.loop-i.invariant.adds.vars c.requires.named_known) c.loop-i.i
    (omega (arith, c.loop-i-test.true, c.len-i-end.ensures)) c.selection.result c.selection.ensures

pub add_implied-requires-clause-follows_known : goal.add_implied-requires-clause-follows_known
add_implied-requires-clause-follows_known c =
    known_older c.loop-i.clauses.vars c.args.table.now c.args.reader.now c.args.named.now (known_same c.args.clauses.now.vars c.loop-i.clauses.vars c.args.table.now c.args.reader.now c.args.named.now c.loop-i.invariant.adds.vars c.requires.named_known) c.loop-i.i
    (omega (arith, c.loop-i-test.true, c.len-i-end.ensures)) c.older.result c.older.ensures

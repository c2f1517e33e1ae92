use Rattle.std.proofs.Common.{ℕ, List, length, arith}
use Rattle.std.specs.Prelude.{Contains}
use Rattle.clause_store.specs.declared.lit.Lit.{Lit}
use Rattle.source_clauses.specs.Clauses.{newest}
use Rattle.source_clauses.proofs.Pieces.{known_same, reader_same}
use Rattle.order_clauses.proofs.Added.{added_more, added_all}
use Rattle.source_clauses.proofs.newest.add_newest_of.Goals as goal

pub loop-j-preserved : goal.loop-j-preserved
loop-j-preserved c =
    added_more c.args.clauses.now c.loop-j.clauses c.add_newest.new.clauses (length c.args.reader.now.candidates) (λ (j : ℕ). λ (k : List Lit). Contains (newest c.args.table.now c.args.reader.now.candidates c.args.named.now.nexts c.args.named.now.selected c.args.named.now.olders c.args.i j) k) c.loop-j.j (omega (arith, c.loop-j-test.true, c.len-j-end.ensures)) c.loop-j.invariant
    (c.in_ok-add_newest.ensures.ok)

pub returns-clause-ok : goal.returns-clause-ok
returns-clause-ok c =
    added_all c.args.clauses.now c.loop-j.clauses (length c.args.reader.now.candidates) (λ (j : ℕ). λ (k : List Lit). Contains (newest c.args.table.now c.args.reader.now.candidates c.args.named.now.nexts c.args.named.now.selected c.args.named.now.olders c.args.i j) k) c.loop-j.j (omega (arith, c.loop-j-test.false, c.len-j-end.ensures)) c.loop-j.invariant

pub add_newest-requires-clause-reader_known : goal.add_newest-requires-clause-reader_known
add_newest-requires-clause-reader_known c = reader_same c.args.clauses.now.vars c.loop-j.clauses.vars c.args.table.now c.args.reader.now c.loop-j.invariant.adds.vars c.requires.reader_known

pub add_newest-requires-clause-named_known : goal.add_newest-requires-clause-named_known
add_newest-requires-clause-named_known c = known_same c.args.clauses.now.vars c.loop-j.clauses.vars c.args.table.now c.args.reader.now c.args.named.now c.loop-j.invariant.adds.vars c.requires.named_known

use Rattle.std.proofs.Common.{ℕ, length, arith}
use Rattle.source_clauses.specs.Clauses.{NewestOf}
use Rattle.source_clauses.proofs.Pieces.{known_same, reader_same}
use Rattle.order_clauses.proofs.Added.{added_more, added_all}
use Rattle.source_clauses.proofs.newest.add_newest_of_all.Goals as goal

pub loop-i-preserved : goal.loop-i-preserved
loop-i-preserved c =
    added_more c.args.clauses.now c.loop-i.clauses c.add_newest_of.new.clauses (length c.args.reader.now.candidates) (λ (i : ℕ). NewestOf c.args.table.now c.args.reader.now.candidates c.args.named.now.nexts c.args.named.now.selected c.args.named.now.olders i) c.loop-i.i (omega (arith, c.loop-i-test.true, c.len-i-end.ensures)) c.loop-i.invariant
    (c.in_ok-add_newest_of.ensures.ok)

pub returns-clause-ok : goal.returns-clause-ok
returns-clause-ok c =
    added_all c.args.clauses.now c.loop-i.clauses (length c.args.reader.now.candidates) (λ (i : ℕ). NewestOf c.args.table.now c.args.reader.now.candidates c.args.named.now.nexts c.args.named.now.selected c.args.named.now.olders i) c.loop-i.i (omega (arith, c.loop-i-test.false, c.len-i-end.ensures)) c.loop-i.invariant

pub add_newest_of-requires-clause-reader_known : goal.add_newest_of-requires-clause-reader_known
add_newest_of-requires-clause-reader_known c = reader_same c.args.clauses.now.vars c.loop-i.clauses.vars c.args.table.now c.args.reader.now c.loop-i.invariant.adds.vars c.requires.reader_known

pub add_newest_of-requires-clause-named_known : goal.add_newest_of-requires-clause-named_known
add_newest_of-requires-clause-named_known c = known_same c.args.clauses.now.vars c.loop-i.clauses.vars c.args.table.now c.args.reader.now c.args.named.now c.loop-i.invariant.adds.vars c.requires.named_known

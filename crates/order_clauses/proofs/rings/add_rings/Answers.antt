use Rattle.std.proofs.Common.{ℕ, arith}
use Rattle.order_clauses.specs.Clauses.{Below, RingClause}
use Rattle.order_clauses.specs.Grid.{lit_in}
use Rattle.order_clauses.proofs.Added.{added_more, added_all}
use Rattle.order_clauses.proofs.rings.add_rings.Goals as goal

pub loop-i-preserved : goal.loop-i-preserved
loop-i-preserved c =
    added_more c.args.clauses.now c.loop-i.clauses c.add_rings_of.new.clauses c.args.table.now.count (λ (i : ℕ). Below i (λ j. Below j (λ k. RingClause (lit_in c.args.table.now) i j k))) c.loop-i.i c.loop-i-test.true c.loop-i.invariant
    c.in_ok-add_rings_of.ensures.ok

pub returns-clause-ok : goal.returns-clause-ok
returns-clause-ok c =
    added_all c.args.clauses.now c.loop-i.clauses c.args.table.now.count (λ (i : ℕ). Below i (λ j. Below j (λ k. RingClause (lit_in c.args.table.now) i j k))) c.loop-i.i (omega (arith, c.loop-i-test.false)) c.loop-i.invariant

use Rattle.std.proofs.Common.{ℕ, arith}
use Rattle.order_clauses.specs.Clauses.{RingClause}
use Rattle.order_clauses.specs.Grid.{lit_in}
use Rattle.order_clauses.proofs.Added.{added_more, added_all}
use Rattle.order_clauses.proofs.rings.add_rings_of_two.Goals as goal

pub loop-k-preserved : goal.loop-k-preserved
loop-k-preserved c =
    added_more c.args.clauses.now c.loop-k.clauses c.add_ring.new.clauses c.args.j (λ (k : ℕ). RingClause (lit_in c.args.table.now) c.args.i c.args.j k) c.loop-k.k c.loop-k-test.true c.loop-k.invariant
    c.in_ok-add_ring.ensures.ok

pub returns-clause-ok : goal.returns-clause-ok
returns-clause-ok c =
    added_all c.args.clauses.now c.loop-k.clauses c.args.j (λ (k : ℕ). RingClause (lit_in c.args.table.now) c.args.i c.args.j k) c.loop-k.k (omega (arith, c.loop-k-test.false)) c.loop-k.invariant

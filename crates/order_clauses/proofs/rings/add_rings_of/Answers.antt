use Rattle.std.proofs.Common.{ℕ, arith}
use Rattle.order_clauses.specs.Clauses.{Below, RingClause}
use Rattle.order_clauses.specs.Grid.{lit_in}
use Rattle.order_clauses.proofs.Added.{added_more, added_all}
use Rattle.order_clauses.proofs.rings.add_rings_of.Goals as goal

pub loop-j-preserved : goal.loop-j-preserved
loop-j-preserved c =
    added_more c.args.clauses.now c.loop-j.clauses c.add_rings_of_two.new.clauses c.args.i (λ (j : ℕ). Below j (λ k. RingClause (lit_in c.args.table.now) c.args.i j k)) c.loop-j.j c.loop-j-test.true c.loop-j.invariant
    c.in_ok-add_rings_of_two.ensures.ok

pub returns-clause-ok : goal.returns-clause-ok
returns-clause-ok c =
    added_all c.args.clauses.now c.loop-j.clauses c.args.i (λ (j : ℕ). Below j (λ k. RingClause (lit_in c.args.table.now) c.args.i j k)) c.loop-j.j (omega (arith, c.loop-j-test.false)) c.loop-j.invariant

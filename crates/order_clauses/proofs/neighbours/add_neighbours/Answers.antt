use Rattle.std.proofs.Common.{ℕ, arith}
use Rattle.order_clauses.specs.Clauses.{Below, NeighbourClause}
use Rattle.order_clauses.specs.Grid.{recorded_in, lit_in}
use Rattle.order_clauses.proofs.Added.{added_more, added_all}
use Rattle.order_clauses.proofs.neighbours.add_neighbours.Goals as goal

pub loop-a-preserved : goal.loop-a-preserved
loop-a-preserved c =
    added_more c.args.clauses.now c.loop-a.clauses c.add_neighbours_of.new.clauses c.args.table.now.count (λ (a : ℕ). Below c.args.table.now.count (λ b. NeighbourClause c.args.table.now.count (recorded_in c.args.table.now) (lit_in c.args.table.now) a b)) c.loop-a.a c.loop-a-test.true c.loop-a.invariant
    c.in_ok-add_neighbours_of.ensures.ok

pub returns-clause-ok : goal.returns-clause-ok
returns-clause-ok c =
    added_all c.args.clauses.now c.loop-a.clauses c.args.table.now.count (λ (a : ℕ). Below c.args.table.now.count (λ b. NeighbourClause c.args.table.now.count (recorded_in c.args.table.now) (lit_in c.args.table.now) a b)) c.loop-a.a (omega (arith, c.loop-a-test.false)) c.loop-a.invariant

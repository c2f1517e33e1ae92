use Rattle.std.proofs.Common.{ℕ, arith}
use Rattle.order_clauses.specs.Clauses.{NeighbourClause}
use Rattle.order_clauses.specs.Grid.{recorded_in, lit_in}
use Rattle.order_clauses.proofs.Added.{added_more, added_all}
use Rattle.order_clauses.proofs.neighbours.add_neighbours_of.Goals as goal

pub loop-b-preserved : goal.loop-b-preserved
loop-b-preserved c =
    added_more c.args.clauses.now c.loop-b.clauses c.add_if_neighbours.new.clauses c.args.table.now.count (λ (b : ℕ). NeighbourClause c.args.table.now.count (recorded_in c.args.table.now) (lit_in c.args.table.now) c.args.a b) c.loop-b.b c.loop-b-test.true c.loop-b.invariant
    c.in_ok-add_if_neighbours.ensures.ok

pub returns-clause-ok : goal.returns-clause-ok
returns-clause-ok c =
    added_all c.args.clauses.now c.loop-b.clauses c.args.table.now.count (λ (b : ℕ). NeighbourClause c.args.table.now.count (recorded_in c.args.table.now) (lit_in c.args.table.now) c.args.a b) c.loop-b.b (omega (arith, c.loop-b-test.false)) c.loop-b.invariant

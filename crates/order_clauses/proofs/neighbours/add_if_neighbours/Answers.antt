use Rattle.order_clauses.specs.Grid.{recorded_in, lit_in}
use Rattle.order_clauses.proofs.Added.{neighbour_added}
use Rattle.order_clauses.proofs.neighbours.add_if_neighbours.Goals as goal

pub returns-in_ok-add_neighbour-clause-ok : goal.returns-in_ok-add_neighbour-clause-ok
returns-in_ok-add_neighbour-clause-ok c =
    neighbour_added c.args.clauses.now c.add_neighbour.new.clauses c.args.table.now.count (recorded_in c.args.table.now) (lit_in c.args.table.now) c.args.a c.args.b
    (c.are_neighbours.ensures.0 c.if-are_neighbours.true) c.in_ok-add_neighbour.ensures.ok

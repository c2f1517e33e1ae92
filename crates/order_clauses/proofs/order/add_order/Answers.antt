use Rattle.order_clauses.specs.Clauses.{NeighbourClauses, RingClauses}
use Rattle.order_clauses.specs.Grid.{recorded_in, lit_in}
use Rattle.order_clauses.proofs.Added.{adds_both, known_later}
use Rattle.order_clauses.proofs.order.add_order.Goals as goal

pub add_rings-requires-clause-known : goal.add_rings-requires-clause-known
add_rings-requires-clause-known c =
    known_later c.args.clauses.now.vars c.add_neighbours.new.clauses.vars c.args.table.now c.in_ok-add_neighbours.ensures.ok.vars c.requires.known

pub returns-clause-ok : goal.returns-clause-ok
returns-clause-ok c =
    let table = c.args.table.now in
    adds_both c.args.clauses.now c.add_neighbours.new.clauses c.add_rings.new.clauses
    (NeighbourClauses table.count (recorded_in table) (lit_in table)) (RingClauses table.count (lit_in table))
    c.in_ok-add_neighbours.ensures.ok c.in_ok-add_rings.ensures.ok

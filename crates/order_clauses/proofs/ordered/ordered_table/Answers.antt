use Rattle.order_clauses.proofs.Tabled.{tabled_known, ordered_made}
use Rattle.order_clauses.proofs.ordered.ordered_table.Goals as goal

pub add_order-requires-clause-known : goal.add_order-requires-clause-known
add_order-requires-clause-known c =
    tabled_known c.args.clauses.now c.table_of.new.clauses c.args.count c.in_ok-table.table c.in_ok-table.ensures.count c.in_ok-table.ensures.table c.in_ok-table.ensures.vars

pub returns-clause-ordered : goal.returns-clause-ordered
returns-clause-ordered c =
    ordered_made c.args.clauses.now c.table_of.new.clauses c.add_order.new.clauses c.vars-first.result c.args.count c.args.recorded c.in_ok-table.table
    c.vars-first.ensures.known c.vars-first.ensures.number c.in_ok-table.ensures.count c.in_ok-table.ensures.recorded c.in_ok-table.ensures.square
    c.in_ok-table.ensures.table c.in_ok-table.ensures.vars c.in_ok-table.ensures.same c.in_ok-add_order.ensures.ok

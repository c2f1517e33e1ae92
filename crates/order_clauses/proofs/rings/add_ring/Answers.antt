use Rattle.order_clauses.specs.Clauses.{TripleClause}
use Rattle.order_clauses.specs.Grid.{lit_in}
use Rattle.order_clauses.proofs.Added.{known_by, known_later, triple_of, adds_both}
use Rattle.order_clauses.proofs.rings.add_ring.Goals as goal

pub add_triple-requires-clause-p_known : goal.add_triple-requires-clause-p_known
add_triple-requires-clause-p_known c = known_by c.args.clauses.now.vars c.args.table.now c.requires.known c.args.j c.args.i c.requires.j_in c.requires.i_in c.lit.result c.lit.ensures

pub add_triple-requires-clause-q_known : goal.add_triple-requires-clause-q_known
add_triple-requires-clause-q_known c = known_by c.args.clauses.now.vars c.args.table.now c.requires.known c.args.k c.args.j c.requires.k_in c.requires.j_in c.lit-2.result c.lit-2.ensures

pub add_triple-requires-clause-r_known : goal.add_triple-requires-clause-r_known
add_triple-requires-clause-r_known c = known_by c.args.clauses.now.vars c.args.table.now c.requires.known c.args.i c.args.k c.requires.i_in c.requires.k_in c.lit-3.result c.lit-3.ensures

pub add_triple-requires-2-clause-p_known : goal.add_triple-requires-2-clause-p_known
add_triple-requires-2-clause-p_known c = known_by c.add_triple.new.clauses.vars c.args.table.now (known_later c.args.clauses.now.vars c.add_triple.new.clauses.vars c.args.table.now c.in_ok-add_triple.ensures.ok.vars c.requires.known) c.args.k c.args.i c.requires.k_in c.requires.i_in c.lit-4.result c.lit-4.ensures

pub add_triple-requires-2-clause-q_known : goal.add_triple-requires-2-clause-q_known
add_triple-requires-2-clause-q_known c = known_by c.add_triple.new.clauses.vars c.args.table.now (known_later c.args.clauses.now.vars c.add_triple.new.clauses.vars c.args.table.now c.in_ok-add_triple.ensures.ok.vars c.requires.known) c.args.j c.args.k c.requires.j_in c.requires.k_in c.lit-5.result c.lit-5.ensures

pub add_triple-requires-2-clause-r_known : goal.add_triple-requires-2-clause-r_known
add_triple-requires-2-clause-r_known c = known_by c.add_triple.new.clauses.vars c.args.table.now (known_later c.args.clauses.now.vars c.add_triple.new.clauses.vars c.args.table.now c.in_ok-add_triple.ensures.ok.vars c.requires.known) c.args.i c.args.j c.requires.i_in c.requires.j_in c.lit-6.result c.lit-6.ensures

pub returns-clause-ok : goal.returns-clause-ok
returns-clause-ok c =
    let table = c.args.table.now in
    let i = c.args.i in
    let j = c.args.j in
    let k = c.args.k in
    adds_both c.args.clauses.now c.add_triple.new.clauses c.add_triple-2.new.clauses
    (TripleClause (lit_in table j i) (lit_in table k j) (lit_in table i k)) (TripleClause (lit_in table k i) (lit_in table j k) (lit_in table i j))
    (triple_of c.args.clauses.now c.add_triple.new.clauses c.lit.result c.lit-2.result c.lit-3.result (lit_in table j i) (lit_in table k j) (lit_in table i k)
    c.lit.ensures c.lit-2.ensures c.lit-3.ensures c.in_ok-add_triple.ensures.ok)
    (triple_of c.add_triple.new.clauses c.add_triple-2.new.clauses c.lit-4.result c.lit-5.result c.lit-6.result (lit_in table k i) (lit_in table j k) (lit_in table i j)
    c.lit-4.ensures c.lit-5.ensures c.lit-6.ensures c.in_ok-add_triple-2.ensures.ok)

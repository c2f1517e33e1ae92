use Rattle.std.proofs.Common.{ℕ, arith}
use Rattle.order_clauses.specs.Clauses.{PairClause}
use Rattle.order_clauses.specs.Grid.{lit_in}
use Rattle.order_clauses.proofs.Added.{added_more, added_all, pair_of, known_by, known_later}
use Rattle.order_clauses.proofs.neighbours.add_neighbour.Goals as goal

pub loop-x-preserved : goal.loop-x-preserved
loop-x-preserved c =
    added_more c.args.clauses.now c.loop-x.clauses c.add_pair.new.clauses c.args.table.now.count (λ (x : ℕ). PairClause (lit_in c.args.table.now x c.args.b) (lit_in c.args.table.now c.args.a x)) c.loop-x.x c.loop-x-test.true c.loop-x.invariant
    (pair_of c.loop-x.clauses c.add_pair.new.clauses c.lit.result c.lit-in-loop-x.result (lit_in c.args.table.now c.loop-x.x c.args.b) (lit_in c.args.table.now c.args.a c.loop-x.x)
    c.lit.ensures c.lit-in-loop-x.ensures c.in_ok-add_pair.ensures.ok)

pub returns-clause-ok : goal.returns-clause-ok
returns-clause-ok c =
    added_all c.args.clauses.now c.loop-x.clauses c.args.table.now.count (λ (x : ℕ). PairClause (lit_in c.args.table.now x c.args.b) (lit_in c.args.table.now c.args.a x)) c.loop-x.x (omega (arith, c.loop-x-test.false)) c.loop-x.invariant

pub add_pair-requires-clause-p_known : goal.add_pair-requires-clause-p_known
add_pair-requires-clause-p_known c =
    known_by c.loop-x.clauses.vars c.args.table.now (known_later c.args.clauses.now.vars c.loop-x.clauses.vars c.args.table.now c.loop-x.invariant.adds.vars c.requires.known)
    c.loop-x.x c.args.b c.loop-x-test.true c.requires.b_in c.lit.result c.lit.ensures

pub add_pair-requires-clause-q_known : goal.add_pair-requires-clause-q_known
add_pair-requires-clause-q_known c =
    known_by c.loop-x.clauses.vars c.args.table.now (known_later c.args.clauses.now.vars c.loop-x.clauses.vars c.args.table.now c.loop-x.invariant.adds.vars c.requires.known)
    c.args.a c.loop-x.x c.requires.a_in c.loop-x-test.true c.lit-in-loop-x.result c.lit-in-loop-x.ensures

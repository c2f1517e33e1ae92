use Rattle.std.proofs.Common.{false, get_or, arith}
use Rattle.clause_store.specs.declared.lit.Lit.{Lit}
use Rattle.bit_clauses.proofs.Comparisons.{compared-none, compared-more, compared-all, alike_step}
use Rattle.bit_clauses.proofs.subtract.equal.Goals as goal

pub loop-i-init : goal.loop-i-init
loop-i-init c = compared-none c.args.clauses.now c.args.left.now c.args.right.now c.args.yes c.requires.left_known c.requires.right_known c.requires.yes_known

pub loop-i-preserved : goal.loop-i-preserved
loop-i-preserved c =
    let d : Lit = record { var = 0; positive = false } in
    let i = c.loop-i.i in
    compared-more c.args.clauses.now c.loop-i.clauses c.and.new.clauses c.args.left.now c.args.right.now c.args.yes c.loop-i.all c.in_ok-all.all i d
    c.loop-i-test.true c.requires.same_width c.loop-i.invariant
    (alike_step c.loop-i.clauses c.same.new.clauses c.and.new.clauses (get_or c.args.left.now i d) (get_or c.args.right.now i d) c.loop-i.all c.in_ok-alike.alike c.in_ok-all.all
    c.in_ok-alike.ensures.gate c.in_ok-alike.ensures.given c.in_ok-all.ensures.gate c.in_ok-all.ensures.given)
    (omega (arith, c.in_ok-all.ensures.gate.fresh, c.in_ok-all.ensures.gate.vars))

pub returns-clause-circuit : goal.returns-clause-circuit
returns-clause-circuit c = compared-all c.args.clauses.now c.loop-i.clauses c.args.left.now c.args.right.now c.args.yes c.loop-i.all c.loop-i.i c.loop-i-test.false c.requires.same_width c.loop-i.invariant

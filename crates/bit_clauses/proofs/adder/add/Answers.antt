use Rattle.std.proofs.Common.{List, length, false, subst, sym, arith, ◌≡◌, ◌+◌}
use Rattle.clause_store.specs.declared.lit.Lit.{Lit}
use Rattle.bit_clauses.proofs.Adders.{IsSummed, summed-none, summed-more, summed-all}
use Rattle.bit_clauses.proofs.adder.add.Goals as goal

pub loop-i-init : goal.loop-i-init
loop-i-init c = subst (λ (l : List Lit). IsSummed c.args.clauses.now c.args.clauses.now c.args.left.now c.args.right.now l c.args.first c.args.first 0) (sym c.new-bits.ensures)
    (summed-none c.args.clauses.now c.args.left.now c.args.right.now c.args.first c.requires.left_known c.requires.right_known c.requires.first_known)

pub loop-i-preserved : goal.loop-i-preserved
loop-i-preserved c =
    let step = c.in_ok-column.ensures in
    subst (λ (l : List Lit). IsSummed c.args.clauses.now c.full_adder.new.clauses c.args.left.now c.args.right.now l c.args.first c.in_ok-column.column.carry (c.loop-i.i + 1)) (sym c.in_ok-push.ensures)
    (summed-more c.args.clauses.now c.loop-i.clauses c.full_adder.new.clauses c.args.left.now c.args.right.now c.loop-i.bits c.args.first c.loop-i.carry c.in_ok-column.column.sum c.in_ok-column.column.carry
    c.loop-i.i (record { var = 0; positive = false }) c.loop-i-test.true c.requires.same_width c.loop-i.invariant step.circuit step.sum_known step.carry_known)

pub returns-clause-circuit : goal.returns-clause-circuit
returns-clause-circuit c =
    let done : c.loop-i.i ≡ length c.args.left.now = omega arith in
    summed-all c.args.clauses.now c.loop-i.clauses c.args.left.now c.args.right.now c.loop-i.bits c.args.first c.loop-i.carry c.requires.same_width
    (subst (λ n. IsSummed c.args.clauses.now c.loop-i.clauses c.args.left.now c.args.right.now c.loop-i.bits c.args.first c.loop-i.carry n) done c.loop-i.invariant)

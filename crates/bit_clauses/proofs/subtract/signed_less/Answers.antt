use Rattle.std.proofs.Common.{◌≡◌, ◌+◌, ◌-◌, length, false, arith}
use Rattle.bit_clauses.proofs.Comparisons.{signed_circuit}
use Rattle.bit_clauses.proofs.subtract.signed_less.Goals as goal

pub returns-clause-circuit : goal.returns-clause-circuit
returns-clause-circuit c =
    let top = length c.args.left.now - 1 in
    let last : top + 1 ≡ length c.args.left.now = omega (arith, c.requires.some_bit) in
    signed_circuit c.args.clauses.now c.less.new.clauses c.xor.new.clauses c.mux.new.clauses c.args.left.now c.args.right.now top (record { var = 0; positive = false })
    c.args.yes c.in_ok-below.below c.in_ok-differ.differ c.in_ok-out.out last c.requires.same_width c.in_ok-below.ensures.circuit
    c.in_ok-differ.ensures.gate c.in_ok-differ.ensures.given c.in_ok-out.ensures.gate c.in_ok-out.ensures.given

use Rattle.bit_clauses.proofs.Adders.{adds_three}
use Rattle.bit_clauses.proofs.adder.full_adder.Goals as goal

pub returns-clause-circuit : goal.returns-clause-circuit
returns-clause-circuit c =
    adds_three c.args.clauses.now c.xor.new.clauses c.xor-2.new.clauses c.mux.new.clauses c.args.a c.args.b c.args.c c.in_ok-half.half c.in_ok-sum.sum c.in_ok-carry.carry
    c.in_ok-half.ensures.gate c.in_ok-half.ensures.given c.in_ok-sum.ensures.gate c.in_ok-sum.ensures.given c.in_ok-carry.ensures.gate c.in_ok-carry.ensures.given

use Rattle.std.proofs.Common.{◌≡◌}
use Rattle.bit_clauses.specs.Bits.{run}
use Rattle.bit_clauses.proofs.variables.run_bits.Given as goal

abbrev pub invariant-loop-i : goal.invariant-loop-i
invariant-loop-i l = l.bits ≡ run l.first l.i

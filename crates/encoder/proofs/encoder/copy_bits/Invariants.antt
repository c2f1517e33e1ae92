use Rattle.std.proofs.Common.{◌≡◌, ◌++◌, take}
use Rattle.encoder.proofs.encoder.copy_bits.Given as goal

abbrev pub invariant-loop-k : goal.invariant-loop-k
invariant-loop-k l = l.lits ≡ l.fn.lits ++ take l.k l.bits

use Rattle.std.proofs.Common.{take}
use Rattle.encoder.proofs.Encoding.{HasJoined, numbers}
use Rattle.encoder.proofs.encoder.Encoder.literals.Given as goal

abbrev pub invariant-loop-k : goal.invariant-loop-k
invariant-loop-k l = HasJoined l.fn.self l.self (numbers (take l.k l.terms)) l.lits

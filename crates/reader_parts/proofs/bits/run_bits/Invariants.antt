use Rattle.encoder.proofs.Encoding.{HasJoined}
use Rattle.reader_parts.specs.Readings.{run_of}
use Rattle.reader_parts.proofs.bits.run_bits.Given as goal

abbrev pub invariant-loop-k : goal.invariant-loop-k
invariant-loop-k l = HasJoined l.fn.encoder l.encoder (run_of l.terms l.first l.k) l.lits

use Rattle.step_terms.specs.Made.{Grows}
use Rattle.reader_parts.specs.Readings.{AreMadeInitial}
use Rattle.reader_parts.proofs.initial.initial_terms.Given as goal

abbrev pub invariant-loop-k : goal.invariant-loop-k
invariant-loop-k g l = AreMadeInitial l.fn.pool l.pool l.image l.address.number l.index l.k l.ids × Grows l.fn.pool l.pool

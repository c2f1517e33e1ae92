use Rattle.read_parts.specs.Reads.{reads_from}
use Rattle.formula_facts.specs.Known.{AddsFacts}
use Rattle.formula_facts.proofs.bytes.add_bytes.Given as goal

abbrev pub invariant-loop-index : goal.invariant-loop-index
invariant-loop-index g l = AddsFacts l.image l.known l.fn.encoder l.encoder (reads_from l.access 0 l.index)

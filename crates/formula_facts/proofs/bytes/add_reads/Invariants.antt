use Rattle.formula_facts.specs.Known.{AddsFacts, all_reads}
use Rattle.formula_facts.proofs.bytes.add_reads.Given as goal

abbrev pub invariant-loop-access : goal.invariant-loop-access
invariant-loop-access g l = AddsFacts l.image l.known l.fn.encoder l.encoder (all_reads l.known.accesses l.access)

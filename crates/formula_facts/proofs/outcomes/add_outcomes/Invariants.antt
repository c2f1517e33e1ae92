use Rattle.formula_facts.specs.Known.{AddsFacts, all_outcomes}
use Rattle.formula_facts.proofs.outcomes.add_outcomes.Given as goal

abbrev pub invariant-loop-access : goal.invariant-loop-access
invariant-loop-access g l = AddsFacts l.image l.known l.fn.encoder l.encoder (all_outcomes l.known.accesses l.access)

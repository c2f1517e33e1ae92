use Rattle.std.proofs.Common.{take}
use Rattle.formula_facts.proofs.Requiring.{HasRequired}
use Rattle.formula_facts.proofs.constraints.add_constraints.Given as goal

abbrev pub invariant-loop-k : goal.invariant-loop-k
invariant-loop-k l = HasRequired l.fn.encoder l.encoder (take l.k l.constraints)

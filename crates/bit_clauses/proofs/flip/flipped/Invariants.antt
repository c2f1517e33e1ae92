use Rattle.std.proofs.Common.{◌≡◌, map, take}
use Rattle.clause_store.specs.Literals.{opposite}
use Rattle.bit_clauses.proofs.flip.flipped.Given as goal

abbrev pub invariant-loop-lit : goal.invariant-loop-lit
invariant-loop-lit l = l.bits ≡ map opposite (take l.lit-index l.lits)

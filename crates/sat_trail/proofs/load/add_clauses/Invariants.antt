use Rattle.std.proofs.Common.{◌++◌, take}
use Rattle.sat_trail.specs.Loading.{IsHolding}
use Rattle.sat_trail.proofs.load.add_clauses.Given as goal

abbrev pub invariant-loop-at : goal.invariant-loop-at
invariant-loop-at l = IsHolding l.initial.index l.index (l.initial.index.clauses ++ take l.at l.clauses.clauses)

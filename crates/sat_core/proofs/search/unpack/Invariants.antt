use Rattle.std.proofs.Common.{◌≡◌, take}
use Rattle.sat_core.proofs.search.unpack.Given as goal

abbrev pub invariant-loop-lit : goal.invariant-loop-lit
invariant-loop-lit l = l.lits.items ≡ take l.lit-index l.line

use Rattle.std.proofs.Common.{◌≡◌, ◌≤◌, ◌-◌, length}
use Rattle.std.specs.Prelude.{replicate}
use Rattle.bit_clauses.proofs.flip.repeated.Given as goal

abbrev pub invariant-loop-lit : goal.invariant-loop-lit
invariant-loop-lit l = (l.bits ≡ replicate (length l.bits) l.lit) × (length l.bits ≤ l.count)

abbrev pub decreases-loop-lit : goal.decreases-loop-lit
decreases-loop-lit l = l.count - length l.bits

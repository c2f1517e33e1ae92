use Rattle.std.proofs.Common.{◌≡◌, ℕ, ◌+◌, ◌-◌, length}
use Rattle.bit_clauses.specs.Nodes.{lits_at}
use Rattle.bit_clauses.proofs.blaster.pad.Given as goal

abbrev pub invariant-loop-alloc : goal.invariant-loop-alloc
invariant-loop-alloc l = (j : ℕ) → lits_at l.terms.items j ≡ lits_at l.initial.terms.items j

abbrev pub decreases-loop-alloc : goal.decreases-loop-alloc
decreases-loop-alloc l = l.id + 1 - length l.terms.items

use Rattle.clause_store.specs.Formula.{IsKnown}
use Rattle.bit_clauses.specs.Circuit.{DecidesAll}
use Rattle.bit_clauses.proofs.Built.{IsBuilt, joined_value}
use Rattle.bit_clauses.proofs.bitwise.bitwise.Given as goal

abbrev pub invariant-loop-i : goal.invariant-loop-i
invariant-loop-i l = record {
  built : IsBuilt l.initial.clauses l.clauses (λ v. DecidesAll v l.left × DecidesAll v l.right) l.bits (joined_value l.gate l.left l.right) l.i;
  left_known : IsKnown l.clauses.vars l.left;
  right_known : IsKnown l.clauses.vars l.right;
}

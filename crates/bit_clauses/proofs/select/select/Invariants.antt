use Rattle.clause_store.specs.Formula.{IsKnown}
use Rattle.std.proofs.Common.{◌<◌}
use Rattle.bit_clauses.specs.Circuit.{Decides, DecidesAll}
use Rattle.bit_clauses.proofs.Built.{IsBuilt, chosen_value}
use Rattle.bit_clauses.proofs.select.select.Given as goal

abbrev pub invariant-loop-i : goal.invariant-loop-i
invariant-loop-i l = record {
  built : IsBuilt l.initial.clauses l.clauses (λ v. Decides v l.when × DecidesAll v l.first × DecidesAll v l.second) l.bits (chosen_value l.when l.first l.second) l.i;
  when_known : l.when.var < l.clauses.vars;
  first_known : IsKnown l.clauses.vars l.first;
  second_known : IsKnown l.clauses.vars l.second;
}

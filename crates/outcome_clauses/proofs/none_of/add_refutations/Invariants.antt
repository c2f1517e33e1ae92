use Rattle.std.proofs.Common.{take}
use Rattle.outcome_clauses.specs.NoneOf.{Refutes}
use Rattle.outcome_clauses.proofs.none_of.add_refutations.Given as goal

abbrev pub invariant-loop-condition : goal.invariant-loop-condition
invariant-loop-condition l = Refutes l.initial.clauses l.clauses l.literal (take l.condition-index l.conditions)

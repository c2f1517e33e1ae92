use Rattle.std.proofs.Common.{take}
use Rattle.outcome_clauses.specs.NoneOf.{IsEither}
use Rattle.outcome_clauses.proofs.none_of.either_of.Given as goal

abbrev pub invariant-loop-condition : goal.invariant-loop-condition
invariant-loop-condition l = IsEither l.fn.literal (take l.condition-index l.conditions) l.clause

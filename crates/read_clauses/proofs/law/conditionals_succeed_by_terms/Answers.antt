use Rattle.read_clauses.proofs.Succeeding.{conditionals_succeed}
use Rattle.read_clauses.proofs.law.conditionals_succeed_by_terms.Goals as goal

pub returns : goal.returns
returns c = conditionals_succeed

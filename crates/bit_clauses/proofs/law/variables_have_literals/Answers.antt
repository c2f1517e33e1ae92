use Rattle.bit_clauses.proofs.Sure.{variables_built}
use Rattle.bit_clauses.proofs.law.variables_have_literals.Goals as goal

pub returns : goal.returns
returns c = variables_built

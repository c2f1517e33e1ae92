use Rattle.read_clauses.proofs.Joining.{bytes_together}
use Rattle.read_clauses.proofs.law.bytes_are_read_together.Goals as goal

pub returns : goal.returns
returns c = bytes_together

use Rattle.formula_parts.proofs.Composing.{stands_later}
use Rattle.formula_parts.proofs.law.stands_on_later.Goals as goal

pub returns : goal.returns
returns c = stands_later

use Rattle.formula_parts.proofs.Composing.{nothing}
use Rattle.formula_parts.proofs.law.no_part.Goals as goal

pub returns : goal.returns
returns c = nothing

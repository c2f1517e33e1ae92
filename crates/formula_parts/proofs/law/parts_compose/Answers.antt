use Rattle.formula_parts.proofs.Composing.{parts_then}
use Rattle.formula_parts.proofs.law.parts_compose.Goals as goal

pub returns : goal.returns
returns c = parts_then

use Rattle.formula_parts.proofs.Required.{required}
use Rattle.formula_parts.proofs.law.required_terms_are_parts.Goals as goal

pub returns : goal.returns
returns c = required

use Rattle.valid_logs.proofs.Valid.{few_steps, reads_bytes}
use Rattle.valid_logs.proofs.law.valid_formulas_stand.Goals as goal

pub returns : goal.returns
returns c =
    λ setting walk paths base last facts chosen at ordered access whole order sound valid terms.
    c.whole_formulas_stand.ensures setting walk paths base last facts chosen at ordered access whole order valid.grammar.version sound
    (reads_bytes setting.log valid) (few_steps setting.log valid) terms

use Rattle.stands_for.proofs.Standing.{formulas_stand}
use Rattle.stands_for.proofs.law.whole_formulas_stand.Goals as goal

pub returns : goal.returns
returns c = formulas_stand c.terms_explain_schedules.ensures.sound c.terms_explain_schedules.ensures.complete

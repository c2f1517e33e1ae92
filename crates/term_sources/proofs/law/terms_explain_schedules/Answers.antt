use Rattle.term_sources.proofs.Explaining.{explained_has_log, log_is_explained}
use Rattle.term_sources.proofs.law.terms_explain_schedules.Goals as goal

pub returns-clause-sound : goal.returns-clause-sound
returns-clause-sound c = explained_has_log

pub returns-clause-complete : goal.returns-clause-complete
returns-clause-complete c = log_is_explained

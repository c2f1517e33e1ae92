use Rattle.term_sources.proofs.Fitting.{terms_fit}
use Rattle.term_sources.proofs.law.terms_fit_by_order.Goals as goal

pub returns : goal.returns
returns c = terms_fit
